pub mod Check
pub mod Six
pub mod Version
