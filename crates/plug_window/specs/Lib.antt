-- The definitions of `plug_window`: the rules, options and delay lines of `compact` and `rmorphan`.
pub mod DelayRule
pub mod Slots
pub mod CompactRule
pub mod CompactState
pub mod BlockState
pub mod RmorphanRule
pub mod RmorphanState
pub mod LateState
pub mod WindowSettings
pub mod WindowWords
pub mod CompactEntry
pub mod RmorphanEntry
