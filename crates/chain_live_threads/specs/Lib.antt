-- The definitions of a chain in two threads that tells its lines.
pub mod Serving
pub mod Rows
pub mod Marking
pub mod RowTells
pub mod RowTakes
pub mod RowWent
pub mod AllWent
pub mod Ending
pub mod RowStages
pub mod AtOnce
