-- The definitions of a call of `tstabcomp`: its words, its conversion, its output, its status and its causes.
pub mod TabWords
pub mod StatusText
pub mod Telling
pub mod Conversion
pub mod Putting
pub mod TabCall
pub mod Causes
