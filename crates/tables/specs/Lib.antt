pub mod Columns
pub mod View
pub mod Shape
pub mod Calls
