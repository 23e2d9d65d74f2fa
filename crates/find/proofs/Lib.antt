pub mod FindLaws
pub mod NulLaws
pub mod Rest
