pub mod Rating
pub mod Measuring
pub mod Metering
pub mod Adding
pub mod Following
mod Rows
