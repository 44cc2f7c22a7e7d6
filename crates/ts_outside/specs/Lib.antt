-- The definitions of the outside of a program: desks, sources, sinks, their faults, and the ones in memory.
pub mod Count
pub mod Told
pub mod Source
pub mod Sink
pub mod OpenFault
pub mod FileFault
pub mod Desk
pub mod Saying
pub mod Entries
pub mod Faultless
pub mod Memory
pub mod Found
pub mod Preallocated
