-- The definitions of `plug_analyze`: the rule, options and state of `analyze`.
pub mod AnalyzeRule
pub mod AnalyzeNotes
pub mod AnalyzeSettings
pub mod AnalyzeState
pub mod AnalyzeStands
pub mod AnalyzeWords
pub mod ServicesKept
pub mod TotalsOf
pub mod AnalyzeEntry
