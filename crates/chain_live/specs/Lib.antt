-- The definitions of a report that is printed while the run goes.
pub mod LiveReports
