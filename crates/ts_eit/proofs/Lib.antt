mod FitLemmas
mod TimeLemmas
mod Rows
