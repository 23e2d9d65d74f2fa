pub mod FieldLaws
pub mod NumberLaws
pub mod SizeLaws
pub mod LineLaws
pub mod EndsLaws
