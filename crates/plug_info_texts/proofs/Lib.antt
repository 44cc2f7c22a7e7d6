-- The lemmas of `plug_info_texts`.
pub mod LineLemmas
pub mod RoundLemmas
pub mod JsonLemmas
pub mod MarkLemmas
pub mod PlainLemmas
mod Rows
mod NamedRows
