pub mod Heads
pub mod Messages
pub mod Faults
pub mod Layout
pub mod Reading
pub mod Packing
