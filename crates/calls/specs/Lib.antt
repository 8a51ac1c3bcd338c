pub mod Answers
pub mod Prepared
pub mod Verdict
pub mod Askable
