pub mod Outcome
pub mod Run
