pub mod ConstantRate
pub mod LastKept
pub mod Faulting
pub mod Verifying
mod Rows
