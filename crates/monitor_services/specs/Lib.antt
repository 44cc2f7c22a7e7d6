-- The definitions of errors whose keys are named by tables in force.
pub mod GapErrors
pub mod PmtErrors
pub mod Components
pub mod PidErrors
pub mod StampErrors
pub mod CurrentSdt
pub mod EventErrors
pub mod RowStands
