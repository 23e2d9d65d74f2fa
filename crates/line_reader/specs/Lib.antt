pub mod Ends
pub mod Numbers
pub mod Sizes
pub mod LineTold
