pub mod StepLemmas
mod ItemLemmas
mod FormedLemmas
pub mod BodyLemmas
pub mod GroupLemmas
pub mod PageLemmas
pub mod RoundLemmas
mod Rows
