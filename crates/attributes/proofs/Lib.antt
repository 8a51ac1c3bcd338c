pub mod Closing
pub mod Opening
