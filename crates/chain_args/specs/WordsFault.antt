-- The fault of a command line.
-- This project's own rule.
use Rattle.std.specs.Prelude.{◌≡◌, ℕ, List, Option, Some}
use Rattle.chain_args.specs.Rules.{first_word_fault}
use Rattle.plugin_options.specs.declared.refusal.Refusal.{Refusal}
use Rattle.plugin_options.specs.declared.refusal.Refusal.TheVariants.{Broken}
use Rattle.plugin_options.specs.declared.refusal.Refusal.TheVariants as refusal
use Rattle.chain_args.specs.declared.words_fault.WordsFault.{WordsFault}
use Rattle.chain_args.specs.declared.words_fault.WordsFault.TheVariants.{At, NoMemory}
use Rattle.plugin_options.specs.declared.words_rule.WordsRule.{WordsRule}

-- memory ran out, or this is the word and the rule
abbrev pub FaultsBy : Option (ℕ × WordsRule) → WordsFault → Type 0
FaultsBy fault (At word rule) = fault ≡ Some (word, rule)
FaultsBy fault NoMemory = Unit {0}

-- the same of the first broken rule of the words
abbrev pub IsFirstFault : List (List ℕ) → WordsFault → Type 0
IsFirstFault words = FaultsBy (first_word_fault words)

-- the fault of a segment that is refused and whose first word has this number
abbrev pub fault_of_refusal : ℕ → Refusal → WordsFault
fault_of_refusal word (Broken rule) = At word rule
fault_of_refusal word refusal.NoMemory = NoMemory
