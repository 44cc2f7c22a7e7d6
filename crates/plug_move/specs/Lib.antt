-- The definitions of `remap`: its options, its rule, and the tables whose PIDs are mapped.
pub mod Targets
pub mod MappedTables
pub mod PidEdit
pub mod CompletedTables
pub mod MapperState
pub mod RemapRule
pub mod RemapState
pub mod RemapSettings
pub mod RemapWords
pub mod MoveTables
pub mod RemapEntry
