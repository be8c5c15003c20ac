pub mod Ripening
pub mod Places
