pub mod MapperLemmas
pub mod StepLemmas
pub mod Targets
mod Rows
