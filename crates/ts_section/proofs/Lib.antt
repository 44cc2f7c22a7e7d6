mod Division
mod CrcLemmas
pub mod HeadBytes
pub mod RuleLemmas
mod WrittenLemmas
mod FrontLemmas
mod RunLemmas
mod TableLemmas
mod Rows
