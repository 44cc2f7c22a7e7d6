mod ReadLemmas
mod ItemLemmas
mod RunLemmas
mod WriteLemmas
mod SizeLemmas
mod FillLemmas
mod NumberLemmas
mod GreedyLemmas
mod BodyLemmas
mod FitLemmas
pub mod ListLemmas
mod AgainBits
mod AgainLoops
mod AgainBody
mod AgainPieces
mod AgainRun
mod AgainWhole
