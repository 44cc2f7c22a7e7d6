-- What a call of `tsp` does whose words have no plan. This project's own rule.
use Rattle.std.specs.Prelude.{◌≡◌, ◌⊎◌, ℕ, List, [], ◌∷◌, ◌++◌, codes, Bool}
use Rattle.std.specs.Fmt.{decimal}
use Rattle.plugin_options.specs.declared.words_rule.WordsRule.{WordsRule}
use Rattle.chain_args.specs.declared.words_fault.WordsFault.TheVariants.{At}
use Rattle.plugin_options.specs.RuleText.{rule_text}
use Rattle.ts_outside.specs.Desk.{DeskView}
use Rattle.ts_outside.specs.Saying.{Says}
use Rattle.tsp_top.specs.declared.status.Status.{Status}
use Rattle.tsp_top.specs.declared.status.Status.TheVariants.{Words, NoMemory}

-- the line of a broken rule; the word is the first of its segment
abbrev pub words_line : ℕ → WordsRule → List ℕ
words_line word rule = codes "tsp: " ++ (rule_text rule ++ (codes " at word " ++ (decimal word ++ 10 ∷ [])))

-- nothing is opened: the rule's line is reported, whole or a first part of it where a report failed; or memory
-- ran out, and nothing happened
abbrev pub RefusesWords : DeskView → DeskView → ℕ → WordsRule → Status → Type 0
RefusesWords old new word rule status =
    ((failed : Bool) × (status ≡ Words (At word rule)) × Says old new (words_line word rule) failed)
    ⊎ ((status ≡ NoMemory) × (new ≡ old))
