-- The definitions of the layouts of the tables of MPEG and DVB.
pub mod PsiPages
pub mod SiPages
pub mod EitPages
pub mod PatEntries
