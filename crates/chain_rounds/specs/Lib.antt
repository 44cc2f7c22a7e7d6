-- The definitions of what a round of a run prints.
pub mod Merged
pub mod Told
pub mod Round
