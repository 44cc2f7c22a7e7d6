-- The definitions of `plug_rate`: bit rates over time, and rule, options and state of `rate`.
pub mod Rates
pub mod Bounds
pub mod Measures
pub mod RateTexts
pub mod RateRule
pub mod RateSettings
pub mod RateWords
pub mod RateEntry
pub mod MeterSteps
pub mod Summing
pub mod RateState
