-- The definitions of packets, their fields, their labels, and cells.
pub mod Packet
pub mod Header
pub mod Adaptation
pub mod Pcr
pub mod Payload
pub mod Labels
pub mod Cells
pub mod LiveRows
pub mod MetRows
