-- The lemmas of `ts_demux`.
pub mod Rows
pub mod Choice
pub mod Stretching
pub mod Runs
pub mod Cutting
pub mod Remembering
pub mod Little
pub mod Taking
pub mod Feeding
pub mod FirstsLemmas
pub mod WholeEra
pub mod EraEntries
pub mod ErasLemmas
pub mod Assembling
pub mod TablesAfter
pub mod UncountedPackets
pub mod TakenLemmas
