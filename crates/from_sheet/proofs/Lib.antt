pub mod Fields
pub mod Said
pub mod RunLaws
pub mod RecordsFrom
pub mod SectionParts
pub mod SectionBegun
