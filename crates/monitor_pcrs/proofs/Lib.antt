pub mod KeptClocks
mod Rows
