-- The definitions of which sections come on a PID, and of which may.
pub mod TableIds
pub mod TableKeys
pub mod ReaderStands
