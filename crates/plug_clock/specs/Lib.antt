-- The definitions of the clock of PCRs and of a stream's clock.
pub mod ClockUnits
pub mod StreamClock
pub mod LineClock
pub mod ConstantRate
