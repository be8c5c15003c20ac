pub mod Bytes
pub mod Codes
pub mod Printable
pub mod Notes
pub mod Laws
