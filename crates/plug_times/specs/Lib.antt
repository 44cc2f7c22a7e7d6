-- The definitions of `plug_times`: the clocks and time stamps of packets, and rule, options and state of `timestamps`.
pub mod PesTimes
pub mod Stamps
pub mod StampTexts
pub mod ClockSteps
pub mod TimestampsRule
pub mod TimestampsSettings
pub mod TimestampsWords
pub mod TimestampsEntry
pub mod TimestampsState
