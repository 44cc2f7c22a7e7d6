-- The definitions of the meaning of a chain.
pub mod Prefix
pub mod Each
pub mod Written
pub mod PluginRule
pub mod SeenCells
pub mod Apply
pub mod NeverEnds
pub mod StageLists
pub mod Joint
pub mod Cut
pub mod InputList
pub mod Stuffed
pub mod InputRead
pub mod Reasons
pub mod Reports
pub mod PureRun
