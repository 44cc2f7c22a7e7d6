mod TextCutLemmas
mod EventStartLemmas
mod EventsLemmas
mod Taking
mod NumberedLemmas
mod WordsLemmas
mod Rows
mod SectionRows
