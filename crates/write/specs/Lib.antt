pub mod Position
pub mod Run
pub mod Section
pub mod Source
