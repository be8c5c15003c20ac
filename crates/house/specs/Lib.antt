pub mod Bounded
pub mod Ready
