-- The definitions of `plug_info`: the rule of `info`, its options, and what the plugin stands for.
pub mod CaSystems
pub mod Components
pub mod InfoRule
pub mod InfoSettings
pub mod InfoStands
pub mod InfoWords
pub mod MetState
pub mod NetworkNames
pub mod PidUses
pub mod PmtFields
pub mod SdtStatus
pub mod UsesOf
pub mod InfoEntry
