mod StepLemmas
mod ReadLemmas
mod RowLemmas
mod SoundLemmas
mod Rows
