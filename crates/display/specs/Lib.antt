pub mod Digits
pub mod Summary
