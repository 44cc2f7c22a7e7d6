pub mod Flat
pub mod FoldingSteps
pub mod Keeping
pub mod Noting
pub mod PidLemmas
pub mod Remembering
pub mod Tallying
