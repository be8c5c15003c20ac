pub mod Keeping
pub mod Seeking
pub mod Searching
pub mod Raising
pub mod Merges
pub mod Joining
