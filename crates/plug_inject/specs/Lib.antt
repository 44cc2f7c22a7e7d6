-- The definitions of `plug_inject`: the rule, options and state of `inject`.
pub mod Contents
pub mod GroupsMade
pub mod Schedule
pub mod Scheduled
pub mod Supplied
pub mod Counted
pub mod InjectRule
pub mod InjectState
pub mod InjectSettings
pub mod InjectWords
pub mod InjectedPlaces
pub mod InjectEntry
