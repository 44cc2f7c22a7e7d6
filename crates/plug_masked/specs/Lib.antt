-- The definitions of a plugin that sees only packets with some labels.
pub mod OnlyLabels
