-- The definitions of `plug_monitor`: errors by the indicators of ETSI TR 101 290, and rule, options and state of `monitor`.
pub mod MonitorSettings
pub mod MonitorWords
pub mod MonitorErrors
pub mod MonitorTexts
pub mod ErrorNotes
pub mod Counting
pub mod MonitorRule
pub mod MonitorEntry
pub mod WatchStands
pub mod MonitorState
