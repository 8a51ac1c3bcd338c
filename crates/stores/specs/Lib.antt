pub mod Walks
pub mod Keys
pub mod Search
