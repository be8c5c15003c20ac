pub mod Faults
pub mod Taking
