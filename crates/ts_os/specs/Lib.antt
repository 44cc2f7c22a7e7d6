-- The definitions of `ts_os`: what contracts see of the system, and how much is moved at once.
pub mod OpenFiles
pub mod Pieces
pub mod Untold
