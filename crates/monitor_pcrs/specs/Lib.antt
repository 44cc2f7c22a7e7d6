-- The definitions of errors of the steps between PCRs.
pub mod PcrErrors
pub mod LastPcrs
