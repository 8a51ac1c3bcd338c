pub mod Integers
pub mod Bytes
pub mod Packing
pub mod Attributes
pub mod Cells
