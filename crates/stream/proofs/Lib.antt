pub mod Fronts
pub mod Items
pub mod Takes
