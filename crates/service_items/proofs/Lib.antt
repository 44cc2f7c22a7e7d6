mod ItemLemmas
mod Rows
