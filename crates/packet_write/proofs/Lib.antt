pub mod Placing
pub mod Pairing
pub mod Packets
pub mod Back
