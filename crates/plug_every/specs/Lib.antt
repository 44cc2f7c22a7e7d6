-- The definitions of a plugin that gives its summary at each so-many-th packet too.
pub mod EveryRule
pub mod DueNotes
pub mod EveryStands
