-- The definitions of compiling and decompiling: sections, runs, tables and their texts.
pub mod Compiling
pub mod Cutting
pub mod Decompiling
pub mod Dividing
pub mod ElementTexts
pub mod Faithful
pub mod TableRuns
pub mod ToldAgain
pub mod TableFiles
