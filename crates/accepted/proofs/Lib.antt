pub mod Accepted
pub mod Walked
pub mod Entered
pub mod Given
