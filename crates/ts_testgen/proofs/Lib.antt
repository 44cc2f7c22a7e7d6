pub mod Spreading
pub mod Carrying
pub mod Counting
mod Rows
