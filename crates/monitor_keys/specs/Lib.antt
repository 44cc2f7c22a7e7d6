-- The definitions of the keys of a monitor: what has to come again within a limit.
pub mod Looks
pub mod Keys
pub mod KeyState
pub mod Named
pub mod Since
