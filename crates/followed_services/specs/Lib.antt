-- The definitions of one service of a command line.
pub mod ServiceNumbers
pub mod NumberStands
