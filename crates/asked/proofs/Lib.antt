pub mod Strides
pub mod Passes
pub mod Chains
pub mod Facts
pub mod Filled
