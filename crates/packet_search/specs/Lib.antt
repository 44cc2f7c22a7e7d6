-- The definition of packets that are found again in bytes with damage.
pub mod Rule
pub mod Search
pub mod Standing
pub mod Settled
