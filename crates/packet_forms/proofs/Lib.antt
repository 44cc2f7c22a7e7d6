pub mod Strips
mod Rows
pub mod Through
