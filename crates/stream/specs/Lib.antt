pub mod Stream
pub mod Next
pub mod Takes
