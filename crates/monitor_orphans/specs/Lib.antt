-- The definitions of PIDs to which no table refers.
pub mod Orphans
pub mod OrphanRow
pub mod Reaches
