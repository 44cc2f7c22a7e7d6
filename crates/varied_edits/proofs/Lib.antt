-- The lemmas of `varied_edits`.
pub mod PidsVary
