pub mod Numbers
pub mod Rowing
pub mod Searching
mod Rows
