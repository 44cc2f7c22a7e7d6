-- What a reader returns for the words that it is given.
-- This project's own rule.
use Rattle.std.specs.Prelude.{◌≡◌, ℕ, List, None, Some, Result, Ok, Err}
use Rattle.clap.specs.Walk.{Row}
use Rattle.plugin_options.specs.OptionTable.{OptionTable, broken_option, first_broken, settings_of, tests_of_parsed}
use Rattle.plugin_options.specs.declared.refusal.Refusal.{Refusal}
use Rattle.plugin_options.specs.declared.refusal.Refusal.TheVariants.{Broken, NoMemory}
use Rattle.plugin_options.specs.declared.words_rule.WordsRule.{WordsRule}

-- out of memory, or this rule is broken for this reason
abbrev pub IsRefusedBy : WordsRule → Type 0 → Refusal → Type 0
IsRefusedBy rule reason (Broken r) = (r ≡ rule) × reason
IsRefusedBy rule reason NoMemory = Unit {0}

-- the settings from what is found, where it breaks no rule; else the first broken rule, or out of
-- memory
abbrev pub ReadsParsed : {C : Type 0} → OptionTable C → List Row → Result C Refusal → Type 0
ReadsParsed p found (Ok conf) =
    (first_broken (tests_of_parsed p found) ≡ None) × (conf ≡ p.settings found)
ReadsParsed p found (Err (Broken rule)) = first_broken (tests_of_parsed p found) ≡ Some rule
ReadsParsed p found (Err NoMemory) = Unit {0}

-- the same for the words
abbrev pub Reads : {C : Type 0} → OptionTable C → List (List ℕ) → Result C Refusal → Type 0
Reads p words (Ok conf) = (broken_option p words ≡ None) × (conf ≡ settings_of p words)
Reads p words (Err (Broken rule)) = broken_option p words ≡ Some rule
Reads p words (Err NoMemory) = Unit {0}
