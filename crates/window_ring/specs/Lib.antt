-- The definitions of the ring.
pub mod Codes
pub mod Hands
pub mod Views
pub mod Stands
pub mod Turns
pub mod Visits
pub mod Seats
pub mod OneRun
pub mod Opening
pub mod Closing
pub mod SeatLaws
