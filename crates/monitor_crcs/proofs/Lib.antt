pub mod Spoiling
pub mod Telling
pub mod Remembering
pub mod Little
pub mod Taking
pub mod Feeding
mod Rows
