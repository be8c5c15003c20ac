pub mod Entries
pub mod Merging
pub mod Listing
pub mod Laws
