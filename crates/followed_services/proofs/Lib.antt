-- The lemmas of `followed_services`.
pub mod NumberLemmas
mod OptionLemmas
mod Rows
