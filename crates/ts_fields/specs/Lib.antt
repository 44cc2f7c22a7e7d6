-- The definitions of rows of fields: their values, and how they are read and written.
pub mod Bits
pub mod Layout
pub mod Times
pub mod Reading
pub mod Spelling
pub mod Texts
pub mod Fitting
pub mod SoundRows
pub mod Bodies
