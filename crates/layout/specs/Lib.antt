pub mod Checked
pub mod Kinds
pub mod Promises
pub mod Refusals
pub mod Spans
pub mod TextCheck
