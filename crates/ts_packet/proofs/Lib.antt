pub mod Packets
pub mod Bytes
pub mod Clocks
pub mod HeaderLaws
pub mod LabelLemmas
pub mod RowLemmas
pub mod PidRows
mod Rows
