pub mod Notes
pub mod Scan
