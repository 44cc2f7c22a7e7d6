pub mod Giving
pub mod Chaining
pub mod Dropping
pub mod Passing
pub mod Rows
