-- The definitions of the chain as numbers, and its theorem.
pub mod Stages
pub mod Numbers
pub mod Machine
pub mod ChainRun
pub mod Keeps
pub mod Close
pub mod EveryOrder
pub mod CoreNumbers
pub mod Laws
