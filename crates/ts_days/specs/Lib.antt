-- The definitions of the calendar, and of days, times and starts as texts.
pub mod Digits
pub mod Calendar
pub mod DayTexts
pub mod TimeTexts
