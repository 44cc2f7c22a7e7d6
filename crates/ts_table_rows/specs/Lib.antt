-- The definitions of tables: their layouts and values, and how their sections are read and written.
pub mod TablePages
pub mod RowWords
pub mod TableValues
pub mod BodyReading
pub mod RunReading
pub mod Filling
pub mod BodySpelling
pub mod TableFitting
pub mod TableSections
pub mod FilledRows
pub mod RoundTrip
