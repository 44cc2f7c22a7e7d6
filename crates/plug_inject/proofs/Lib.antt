pub mod TurnLemmas
pub mod PlaceLemmas
mod Rows
pub mod MetLemmas
pub mod NumberLemmas
pub mod ScheduleLemmas
pub mod GroupLemmas
