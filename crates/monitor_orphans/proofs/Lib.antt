pub mod Turning
pub mod Reaching
mod Rows
