-- The lemmas of `plug_analyze`.
pub mod CountersLemmas
pub mod NotesLemmas
pub mod NotesKeeping
pub mod ServicesKeeping
pub mod SummaryLemmas
pub mod WithoutLines
pub mod Analyzing
mod Rows
