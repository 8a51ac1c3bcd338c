pub mod Limits
pub mod ReadyForAttributes
pub mod Rows
pub mod Giving
pub mod Stepping
pub mod Counting
pub mod Rounds
pub mod Cost
