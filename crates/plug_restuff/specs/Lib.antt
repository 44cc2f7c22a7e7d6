-- The definitions of `plug_restuff`: the rule, the options and the queue of `restuff`, and its law.
pub mod Slots
pub mod MovedClock
pub mod RestuffRule
pub mod RestuffLaw
pub mod RestuffState
pub mod RestuffSettings
pub mod RestuffWords
pub mod RestuffEntry
