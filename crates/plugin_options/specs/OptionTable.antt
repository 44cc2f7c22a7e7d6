-- The options of a plugin, an input, an output or the general options, and the rule that their words break.
-- This project's own rule.
use Rattle.std.specs.Prelude.{ℕ, Bool, List, [], ◌∷◌, None, Option, Some, if◌then◌else◌, not}
use Rattle.clap.specs.Walk.{Row}
use Rattle.plugin_options.specs.Options.{OptionRow, are_well_formed, command_of, findings, is_taken}
use Rattle.plugin_options.specs.declared.words_rule.WordsRule.{WordsRule}
use Rattle.plugin_options.specs.declared.words_rule.WordsRule.TheVariants.{Conflict, Missing, Shape, Value}

-- a table of options; which of them are required; the settings made from what is found; and whether
-- what is found can be combined
pub record OptionTable (C : Type 0) : Type 0 where
  pub rows : List OptionRow
  pub has_needed : List Row → Bool
  pub settings : List Row → C
  pub go_together : List Row → Bool

-- the same options, with something else made from their settings
abbrev pub made_into : {C D : Type 0} → (C → D) → OptionTable C → OptionTable D
made_into make table = record {
  rows = table.rows;
  has_needed = table.has_needed;
  settings = λ found. make (table.settings found);
  go_together = table.go_together;
}

-- the first rule whose test holds
abbrev pub first_broken : List (WordsRule × Bool) → Option WordsRule
first_broken [] = None
first_broken (test ∷ tests) = if test.1 then Some test.0 else first_broken tests

-- the settings that the words give
abbrev pub settings_of : {C : Type 0} → OptionTable C → List (List ℕ) → C
settings_of p words = p.settings (findings (command_of p.rows) words)

-- the rules that findings may break, in the order of `WordsRule`
abbrev pub tests_of_parsed : {C : Type 0} → OptionTable C → List Row → List (WordsRule × Bool)
tests_of_parsed p found = (Missing, not (p.has_needed found))
    ∷ (Value, not (are_well_formed p.rows found))
    ∷ (Conflict, not (p.go_together found))
    ∷ []

-- the first rule that the words break
abbrev pub broken_option : {C : Type 0} → OptionTable C → List (List ℕ) → Option WordsRule
broken_option p words = first_broken (
    (Shape, not (is_taken (command_of p.rows) words))
    ∷ tests_of_parsed p (findings (command_of p.rows) words)
    )
