-- The definitions of NIT, BAT and SDT as tables.
pub use Rattle.ts_table_pages.specs.SiPages
pub mod SiTables
