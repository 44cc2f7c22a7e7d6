-- The first rule that a command line breaks.
-- This project's own rule.
use Rattle.std.specs.Prelude.{ℕ, ◌+◌, ◌&&◌, ◌||◌, Bool, List, [], ◌∷◌, ◌++◌, None, Option, Some, count_by, is_some, length, nat_le, not, option_and_then}
use Rattle.std.specs.List.{list_any}
use Rattle.chain_args.specs.General.{general}
use Rattle.chain_args.specs.Inputs.{options_of_input}
use Rattle.chain_args.specs.Outputs.{options_of_output}
use Rattle.plugin_settings.specs.Items.{options_of_item}
use Rattle.plugin_options.specs.OptionTable.{broken_option, first_broken}
use Rattle.chain_args.specs.Segments.{Segment, general_words, input_of, is_input, is_output, is_plugin, name_of, output_of, own_words, plugin_of, segments, word_count}
use Rattle.plugin_options.specs.declared.words_rule.WordsRule.{WordsRule}
use Rattle.plugin_options.specs.declared.words_rule.WordsRule.TheVariants.{NoName, TooMany, Twice, UnknownPlugin}

-- the maximum number of plugins of a chain
abbrev pub most_plugins : ℕ
most_plugins = 62

-- the segment is a second input or a second output
abbrev pub comes_twice : List Segment → Segment → Bool
comes_twice before s =
    (is_input s && list_any is_input before) || (is_output s && list_any is_output before)

-- no word follows the first one of the segment
abbrev pub has_no_name : Segment → Bool
has_no_name s = not (is_some (name_of s))

-- the segment names no input, plugin or output that there is
abbrev pub is_unknown : Segment → Bool
is_unknown s =
    not (is_some (input_of s)) && (not (is_some (plugin_of s)) && not (is_some (output_of s)))

-- the segment is a plugin more than the maximum
abbrev pub is_one_too_many : List Segment → Segment → Bool
is_one_too_many before s = is_plugin s && nat_le most_plugins (count_by is_plugin before)

-- the rule that the options of a named segment break
abbrev pub broken_input : Segment → Option WordsRule
broken_input s = option_and_then (λ k. broken_option (options_of_input k) (own_words s)) (input_of s)

abbrev pub broken_plugin : Segment → Option WordsRule
broken_plugin s = option_and_then (λ k. broken_option (options_of_item k) (own_words s)) (plugin_of s)

abbrev pub broken_output : Segment → Option WordsRule
broken_output s = option_and_then (λ k. broken_option (options_of_output k) (own_words s)) (output_of s)

-- the first of two rules, if it is broken, else the second
abbrev pub or_else : Option WordsRule → Option WordsRule → Option WordsRule
or_else (Some rule) other = Some rule
or_else None other = other

-- the first rule that a segment breaks, after these segments
abbrev pub broken_rule : List Segment → Segment → Option WordsRule
broken_rule before s = or_else (first_broken (
    (Twice, comes_twice before s)
    ∷ (NoName, has_no_name s)
    ∷ (UnknownPlugin, is_unknown s)
    ∷ (TooMany, is_one_too_many before s)
    ∷ []
    )) (or_else (broken_input s) (or_else (broken_plugin s) (broken_output s)))

-- the rule with the number of the word, if it is broken, else the later fault
abbrev pub fault_at : ℕ → Option WordsRule → Option (ℕ × WordsRule) → Option (ℕ × WordsRule)
fault_at at (Some rule) later = Some (at, rule)
fault_at at None later = later

-- the number of the first word of the first faulty segment, and the rule that it breaks; the segments follow those
-- before, and the first word has the number `at`
unfoldable pub first_fault : List Segment → ℕ → List Segment → Option (ℕ × WordsRule)
first_fault before at [] = None
first_fault before at (s ∷ rest) = fault_at at (broken_rule before s)
    (first_fault (before ++ s ∷ []) (at + word_count s) rest)

-- the first broken rule of the words: the general options come first, as word 0
unfoldable pub first_word_fault : List (List ℕ) → Option (ℕ × WordsRule)
first_word_fault words = fault_at 0 (broken_option general (general_words words))
    (first_fault [] (length (general_words words)) (segments words))
