-- The definitions of packetizing, and of cycles of packets.
pub mod Packing
pub mod Begun
pub mod Packets
pub mod Ordinals
pub mod Cycle
