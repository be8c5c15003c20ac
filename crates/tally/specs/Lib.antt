pub mod Pairs
pub mod Counts
pub mod Answers
pub mod Walking
