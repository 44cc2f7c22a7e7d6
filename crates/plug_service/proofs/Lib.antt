pub mod ActionLemmas
pub mod EditLemmas
pub mod PartLemmas
pub mod PidLemmas
pub mod PresentLemmas
pub mod FlagLemmas
pub mod StepLemmas
pub mod ServiceLemmas
mod OneServiceRows
mod Rows
