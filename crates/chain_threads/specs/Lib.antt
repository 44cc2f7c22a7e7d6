-- The definitions of a run in threads.
pub mod Standing
pub mod Turning
pub mod Over
pub mod Driving
pub mod Beginning
pub mod RunLaws
