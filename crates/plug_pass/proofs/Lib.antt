mod Rows
pub mod Repeating
pub mod Slicing
