-- The definitions of `eit`.
pub mod TextCut
pub mod EventStart
pub mod ShortEventChange
pub mod EventChange
pub mod EitEdit
pub mod EitRule
pub mod OnePid
pub mod EitState
pub mod EitSettings
pub mod EitWords
pub mod EitEntry
