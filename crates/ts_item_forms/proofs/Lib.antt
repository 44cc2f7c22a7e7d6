mod StepLemmas
mod LoopLemmas
mod ItemLemmas
mod TakesLemmas
mod SoundLemmas
mod AgainLemmas
mod WriteLemmas
mod Rows
