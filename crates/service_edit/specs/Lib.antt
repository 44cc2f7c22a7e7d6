-- The definitions of edits of the tables on the PID of a service's PMT.
pub mod EditorState
pub mod ServiceRule
pub mod ServiceState
