-- The lemmas of edits of a service's PMTs.
pub mod StepLemmas
mod Rows
