pub mod Comparing
pub mod Lending
