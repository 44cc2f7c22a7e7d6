mod FitLemmas
mod EntryLemmas
mod OrderLemmas
