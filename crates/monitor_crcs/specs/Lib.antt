-- The definitions of sections with a wrong CRC, and of the reader that finds them.
pub mod WrongCrcs
pub mod Reader
pub mod ReaderState
