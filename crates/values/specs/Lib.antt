pub mod Cells
pub mod Layout
pub mod Packed
