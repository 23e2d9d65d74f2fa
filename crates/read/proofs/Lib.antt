pub mod Filling
pub mod Stored
