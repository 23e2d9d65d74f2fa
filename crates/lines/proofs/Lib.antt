pub mod Measured
pub mod Turns
