pub mod CountLemmas
pub mod ErrorLemmas
pub mod Monitoring
pub mod Watching
pub mod Summing
mod Rows
