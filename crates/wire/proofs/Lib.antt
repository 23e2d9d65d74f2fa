pub mod LengthLaws
pub mod NumberLaws
pub mod PaddingLaws
pub mod Promises
pub mod Sets
