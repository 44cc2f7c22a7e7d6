-- The definitions of a call of `tsswitch`.
pub mod PlayNames
pub mod PlayLists
pub mod LeftOut
pub mod PlaySources
pub mod PlayCuts
pub mod Lines
pub mod Switched
pub mod Nexts
pub mod PlaysAfter
pub mod SoFar
pub mod SwitchEnds
pub mod OutputKept
pub mod SwitchExit
pub mod SwitchPlans
pub mod SwitchCall
pub mod SwitchTheorem
