-- The definitions of `section_flow`: sections edited as they pass.
pub mod Flow
pub mod FlowState
pub mod FlowStands
