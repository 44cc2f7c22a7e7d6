pub mod KeptPackets
mod Rows
