-- The definitions of `until`.
pub mod UntilRule
pub mod UntilState
pub mod UntilSettings
pub mod UntilWords
pub mod UntilEntry
