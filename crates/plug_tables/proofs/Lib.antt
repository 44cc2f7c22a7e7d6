pub mod ToldLemmas
pub mod WatchedLemmas
mod Rows
