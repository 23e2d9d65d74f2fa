pub mod BySide
pub mod Checked
pub mod Faults
pub mod Lists
pub mod PlainText
pub mod Promises
pub mod TextCheck
pub mod Unknown
