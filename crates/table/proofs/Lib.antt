pub mod Leading
pub mod Promises
pub mod Rows
pub mod Tags
