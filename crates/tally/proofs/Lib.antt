pub mod Order
pub mod Bounds
pub mod Misfits
pub mod Building
pub mod Listing
pub mod Splitting
pub mod Trying
