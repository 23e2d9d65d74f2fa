pub mod Length
pub mod Number
pub mod Padding
pub mod Promises
