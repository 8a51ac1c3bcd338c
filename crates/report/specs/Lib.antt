pub mod Printed
pub mod PrintedL
pub mod Report
pub mod Notices
pub mod Retries
