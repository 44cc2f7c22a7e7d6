-- The definitions of a chain that tells its lines while it runs.
pub mod Waiting
pub mod Taking
pub mod Telling
pub mod Live
pub mod Printing
pub mod Rounds
pub mod PrintingRounds
pub mod InputLines
