-- How the groups of a file are gathered. This project's own rule.
use Rattle.std.specs.Prelude.{ℕ, Bool, true, false, not, List}
use Rattle.plug_inject.specs.Contents.{is_named}

-- one of the pairs names the table of a section, or none does
abbrev pub named_or_not : List (ℕ × ℕ) → Bool → List ℕ → Bool
named_or_not pairs true section = is_named pairs section
named_or_not pairs false section = not (is_named pairs section)
