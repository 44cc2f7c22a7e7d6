pub mod Ticking
pub mod Growing
pub mod OnRate
pub mod Mean
mod Rows
