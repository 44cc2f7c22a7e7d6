-- The definitions of `plug_watch`: the rules, options and states of `count` and `continuity`.
pub use Rattle.plugin_notes.specs.Notes
pub mod CountRule
pub mod CountNotes
pub use Rattle.plugin_notes.specs.ContinuityErrors
pub mod CountState
pub mod CountConfOf
pub use Rattle.plugin_notes.specs.NotesKept
pub use Rattle.plugin_notes.specs.Tallies
pub mod ContinuityRule
pub mod ContinuitySeen
pub mod ContinuityConfOf
pub mod CountSettings
pub mod CountWords
pub mod ContinuitySettings
pub mod ContinuityWords
pub mod ContinuityEntry
pub mod CountEntry
