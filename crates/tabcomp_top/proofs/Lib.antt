pub mod PutLemmas
pub mod CallLemmas
pub mod CauseLemmas
pub mod Rows
