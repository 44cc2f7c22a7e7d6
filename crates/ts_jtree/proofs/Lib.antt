mod RowLemmas
mod FaultLemmas
mod NumberLemmas
mod AttributeLemmas
mod KeyLemmas
mod ShownLemmas
mod AgainLemmas
mod KnownLemmas
mod ShapeLemmas
mod Rows
pub mod OnLiterals
