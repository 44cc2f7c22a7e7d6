pub mod JoinedLemmas
pub mod NumberLemmas
pub mod OperandLemmas
pub mod ParsedOptionsLemmas
pub mod RefusalLemmas
pub mod SignLemmas
pub mod SignedLemmas
pub mod WordListLemmas
mod Rows
mod SettingsRows
