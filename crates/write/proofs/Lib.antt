pub mod EntryLaws
pub mod RunLaws
pub mod SectionLaws
pub mod SectionParts
pub mod Turns
