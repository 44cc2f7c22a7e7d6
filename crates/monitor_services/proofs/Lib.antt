pub mod Adding
pub mod Speaking
pub mod Sorting
pub mod Naming
pub mod Starting
pub mod SdtFeeding
mod Rows
