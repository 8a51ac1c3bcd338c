pub mod CallNumbers
pub mod Signs
