-- The definitions of PAT, CAT and PMT as tables.
pub use Rattle.ts_table_pages.specs.PsiPages
pub mod PsiTables
pub mod CatTables
pub mod PatTables
