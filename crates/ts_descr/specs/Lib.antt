-- The definitions of descriptors that are read and written by their pages.
pub mod Descriptors
