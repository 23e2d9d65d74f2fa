pub mod Hidden
pub mod Joined
