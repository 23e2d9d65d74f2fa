pub mod Decimals
pub mod LineLaws
