pub mod Noting
pub mod Reading
pub mod Keeping
pub mod Naming
pub mod Seeing
pub mod LineTimes
mod Rows
