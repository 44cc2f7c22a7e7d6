pub mod ArmLemmas
pub mod ItemLemmas
pub mod SilentRules
pub mod ListLemmas
