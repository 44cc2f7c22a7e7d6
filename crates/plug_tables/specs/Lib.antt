-- The definitions of `tables`: its options, its rule and its state.
pub mod TableReaderState
pub mod TablesRule
pub mod TablesSettings
pub mod TablesStands
pub mod TablesState
pub mod TablesWords
pub mod WatchedPackets
pub mod TablesEntry
