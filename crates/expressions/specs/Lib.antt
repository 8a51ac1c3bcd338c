pub mod Forms
pub mod Noted
pub mod TypeNumbers
pub mod Types
pub mod Widths
