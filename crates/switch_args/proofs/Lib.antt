mod FormLemmas
mod WordsBackLemmas
mod ValidLemmas
mod Rows
