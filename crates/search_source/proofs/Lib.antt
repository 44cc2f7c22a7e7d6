pub mod Counting
pub mod Hands
pub mod Filled
pub mod Views
pub mod Through
pub mod Kept
pub mod SinceLemmas
