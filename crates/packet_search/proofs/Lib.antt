pub mod Units
pub mod Tests
pub mod Steps
pub mod Runs
pub mod Stands
pub mod Settles
mod Rows
