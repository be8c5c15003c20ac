pub mod Rewriting
pub mod Held
pub mod Views
pub mod Queued
pub mod Asking
pub mod Doing
