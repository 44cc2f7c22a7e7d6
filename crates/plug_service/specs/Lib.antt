-- The definitions of `zap` and `svremove`: their options, the actions of packets by PID, and the edits of tables.
pub use Rattle.plug_psi.specs.ServicePids
pub use Rattle.plug_psi.specs.PidFlags
pub mod Actions
pub mod ServiceEdits
pub mod Presence
pub mod Present
pub mod ServiceRule
pub mod ActionsState
pub mod EditorsState
pub mod ServiceState
pub mod ServiceSettings
pub mod ServiceWords
pub mod SvremoveWords
pub mod SvremoveEntry
pub mod ZapWords
pub mod ZapEntry
