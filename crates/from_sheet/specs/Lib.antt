pub mod Escape
pub mod Records
pub mod Run
pub mod Section
