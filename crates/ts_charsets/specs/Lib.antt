-- The definitions of texts in character tables.
pub mod CharTables
pub mod Alphabets
pub mod AlphabetTexts
pub mod SingleSpelling
pub mod KnownAlphabets
pub mod TextTables
pub mod ShownTexts
