-- The definitions of `plug_pcr`: the rule, options and state of `pcrverify`.
pub mod ClockFaults
pub mod ClockJitter
pub mod ClockNotes
pub mod LastClocks
pub mod PcrverifyConfOf
pub mod PcrverifyRule
pub mod PcrverifySettings
pub mod PcrverifyState
pub mod PcrverifyWords
pub mod PcrverifyEntry
