-- The lemmas of `plug_info`.
pub mod LineLemmas
pub mod ItemLemmas
pub mod JsonLemmas
pub mod ServiceLemmas
pub mod MetLemmas
pub mod UseLemmas
mod Rows
