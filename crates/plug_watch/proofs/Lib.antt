pub mod Counting
pub mod CountStates
pub mod Summing
pub mod Watching
mod Rows
