pub mod Giving
mod Rows
