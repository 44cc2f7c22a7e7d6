-- The definitions of `in_place`: what a read in place moves.
pub mod Reads
