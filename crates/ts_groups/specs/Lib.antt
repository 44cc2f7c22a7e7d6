-- The definitions of fields that are there by the value of a field in front.
pub mod Groups
