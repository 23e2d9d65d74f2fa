pub mod Find
pub mod Nul
