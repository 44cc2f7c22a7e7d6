-- The lemmas of `named_services`.
pub mod NameLemmas
pub mod SdtLemmas
pub mod WordLemmas
pub mod WordLists
mod Rows
