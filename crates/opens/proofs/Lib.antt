pub mod FormKeys
pub mod Cells
pub mod Opened
pub mod Looks
