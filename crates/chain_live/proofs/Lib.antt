pub mod LineLaws
pub mod Rows
