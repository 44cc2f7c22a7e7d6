pub mod BlockLemmas
pub mod SlotLemmas
pub mod GivenLemmas
pub mod DelayLaws
pub mod LateLemmas
mod Rows
