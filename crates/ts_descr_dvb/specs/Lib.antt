-- The definitions of the DVB descriptors as values.
pub mod DvbFields
pub mod DvbDescrs
