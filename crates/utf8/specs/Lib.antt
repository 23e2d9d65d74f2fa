pub mod Classes
pub mod Plain
pub mod Rfc3629
