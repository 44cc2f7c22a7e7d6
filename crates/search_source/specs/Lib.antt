-- The definition of a source of packets that are found again, and of the gaps between them.
pub mod Gaps
pub mod Coming
pub mod SearchView
pub mod Kept
pub mod FileView
pub mod Since
