pub mod Body
pub mod Entries
pub mod Sections
