-- The definitions of the lines of errors.
pub mod Indicators
pub mod ErrorTexts
