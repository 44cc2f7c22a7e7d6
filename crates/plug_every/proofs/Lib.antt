mod EveryLaws
pub mod DueCells
pub mod Between
pub mod StandsLemmas
pub mod GivenDue
mod Rows
