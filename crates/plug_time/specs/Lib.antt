-- The definitions of `time`.
pub mod UtcTime
pub mod MovedTimes
pub mod HasTime
pub mod TimeRule
pub mod TimeSettings
pub mod TimeWords
pub mod TimeEntry
