-- Words joined by commas, each of which a test knows.
-- This project's own rule.
use Rattle.std.specs.Prelude.{ℕ, Bool, List}
use Rattle.std.specs.List.{list_all, list_any, slice_split}
use Rattle.std.specs.Str.{bytes_eq}
use Rattle.plugin_options.specs.Joined.{is_comma}

-- the test knows each part between commas; a part may be empty
abbrev pub are_known : (List ℕ → Bool) → List ℕ → Bool
are_known test text = list_all test (slice_split is_comma text)

-- a word is one of the parts between commas
abbrev pub has_part : List ℕ → List ℕ → Bool
has_part word text = list_any (λ part. bytes_eq part word) (slice_split is_comma text)
