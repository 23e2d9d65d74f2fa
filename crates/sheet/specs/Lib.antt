pub mod Fields
pub mod Lines
pub mod ToSheet
pub mod FromSheet
pub mod Samples
pub mod Promises
-- How a pass goes over a payload
pub mod SheetWalk
