pub mod MovedLemmas
pub mod HasTimeLemmas
mod Rows
