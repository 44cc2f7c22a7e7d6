pub mod StampBytes
pub mod Telling
pub mod Stepping
pub mod Rowing
pub mod Following
pub mod Summing
mod Rows
