-- The definitions of what a plugin is.
pub mod Steps
pub mod Marks
pub mod PlacedLines
pub mod Driving
pub mod LiveCount
pub mod SilentRule
pub mod Actions
pub mod Unmarked
pub mod HeardStands
pub mod Finding
