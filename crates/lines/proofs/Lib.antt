pub mod Decimals
pub mod DecimalSays
pub mod Appending
