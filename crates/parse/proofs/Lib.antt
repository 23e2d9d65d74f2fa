pub mod Count
pub mod RunLaws
pub mod SectionCount
pub mod SectionTurns
