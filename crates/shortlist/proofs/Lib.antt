pub mod Shifts
pub mod Items
