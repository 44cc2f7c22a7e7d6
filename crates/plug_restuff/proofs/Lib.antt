pub mod SlotLemmas
pub mod ClockLemmas
pub mod WaitLemmas
pub mod LawLemmas
mod Rows
