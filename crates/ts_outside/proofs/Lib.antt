pub mod Files
pub mod Moves
pub mod Rows
pub mod Views
