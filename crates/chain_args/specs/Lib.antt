-- The definitions of the command line of `tsp`: its words, its plan and its faults.
pub mod General
pub mod Inputs
pub mod ValidPlan
pub mod Outputs
pub mod PlanBuilder
pub mod PlanOf
pub mod Rules
pub mod Segments
pub mod WordsFault
