-- The definitions of `switch_args`: the form of the words of `tsswitch`, and their settings.
pub mod SwitchWords
pub mod ValidSettings
pub mod Readings
