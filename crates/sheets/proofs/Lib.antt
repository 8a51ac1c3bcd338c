pub mod Gaps
pub mod Indexed
pub mod Lookups
pub mod Noted
pub mod Pass
pub mod Pieces
pub mod Scan
pub mod Told
