-- The text of the root from the texts of its children.
-- RFC 8259, 4 and 5, without spaces: a colon stands between a name and its value, and commas stand between members and
-- between elements.
use Rattle.std.specs.Prelude.{◌≡◌, ℕ, List, [], ◌∷◌, ◌++◌, codes, Bool, true, Some}
use Rattle.json.specs.Tree.{HasNumbers}
use Rattle.serde_json.specs.Data.{Data}
use Rattle.serde_json.specs.Read.{of_json}
use Rattle.serde_json.specs.Written.{comma_if, compact_text, outline}

-- the text before the first child
abbrev pub head_text : List ℕ
head_text = codes "{\"#name\":\"tsduck\",\"#nodes\":["

-- the text after the last child
abbrev pub tail_text : List ℕ
tail_text = codes "]}"

-- children, each after a comma where others come before it
abbrev pub children_text : Bool → List Data → List ℕ
children_text later [] = []
children_text later (d ∷ ds) = comma_if later ++ (compact_text d ++ children_text true ds)

-- the text of a value is read as that value wherever it stands
pub record IsReadWithin (d : Data) : Type 0 where
  pub numbers : HasNumbers (outline d)
  pub same : of_json (outline d) ≡ Some d
