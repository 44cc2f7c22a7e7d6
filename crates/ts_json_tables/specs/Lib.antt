-- The definitions of tables: from sections and to sections, as JSON elements, and read from them.
pub mod KnownPages
pub mod HeldTables
pub mod ElementRows
pub mod ShortPages
pub mod TimeOffsets
pub mod TableElements
pub mod HeadReading
pub mod TableReading
pub mod RunTables
pub mod ValidTables
pub mod ToldTables
