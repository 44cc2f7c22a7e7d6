-- The definitions of the generated stream.
pub mod Mixed
pub mod GeneratedTables
pub mod Rules
pub mod Generated
pub mod Counters
