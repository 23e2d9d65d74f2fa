pub mod ContentsLaws
pub mod NamesLaws
pub mod CopyLaws
