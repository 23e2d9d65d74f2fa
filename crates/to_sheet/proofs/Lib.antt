pub mod LineParts
pub mod LineWalk
