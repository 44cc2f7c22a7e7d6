pub mod Going
pub mod FarLemmas
pub mod AgreeingLemmas
pub mod Saying
pub mod Giving
pub mod FindLemmas
