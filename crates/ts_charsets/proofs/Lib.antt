pub mod SpellingLemmas
pub mod LoopLemmas
pub mod TableLemmas
pub mod OnceLemmas
pub mod ScreenLemmas
mod Rows
