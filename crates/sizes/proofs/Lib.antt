pub mod Capped
pub mod SectionSizes
pub mod MeasuredRecords
pub mod Sized
