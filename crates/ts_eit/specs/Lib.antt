-- The definitions of an EIT as a table, of its times as bits, and of the EIT sections of a service.
pub use Rattle.ts_table_pages.specs.EitPages
pub mod EventTimes
pub mod EitTables
pub mod EitSections
