pub mod CheckLaws
pub mod Asking
pub mod Preparing
