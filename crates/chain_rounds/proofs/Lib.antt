pub mod OnePosition
pub mod RowLemmas
pub mod RoundLemmas
pub mod ShownLemmas
pub mod Rows
