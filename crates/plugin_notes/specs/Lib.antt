-- The definitions of `plugin_notes`: notes on packets, counts by PID and continuity counters.
pub mod Notes
pub mod NotesKept
pub mod Tallies
pub mod PidPackets
pub mod Counters
pub mod ContinuityErrors
pub mod LastSeen
