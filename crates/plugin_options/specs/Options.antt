-- The options of a segment, and how `clap` reads its words.
-- This project's own rule.
use Rattle.std.specs.Prelude.{ℕ, ◌==◌, Bool, List, [], Option, Some, codes, false, find, fold, is_some, length, option_and_then, true, unwrap_or}
use Rattle.std.specs.List.{list_all}
use Rattle.std.specs.Option.{option_map_or}
use Rattle.std.specs.Str.{bytes_eq}
use Rattle.clap.specs.Simple.{App, matches_of, new_app, new_rule, on_top, with_rule}
use Rattle.clap.specs.Walk.{Row, Rule, all_of, first_of}
use Rattle.clap.specs.Faults.{fault_of}
use Rattle.clap.specs.declared.builder.action.ArgAction.TheVariants.{Append, Set, SetTrue}
use Rattle.clap.specs.declared.parser.matches.ValueSource.{ValueSource}
use Rattle.clap.specs.declared.parser.matches.ValueSource.TheVariants.{CommandLine}
use Rattle.plugin_options.specs.Forms.{Form, has_form}

-- what an option is: a flag `--name`, an option `--name value`, one operand or several
pub data OptionKind : Type 0 where
  flag : OptionKind
  value : Form → OptionKind
  operand : Form → OptionKind
  operands : Form → OptionKind

-- one row of a segment's table of options
pub record OptionRow : Type 0 where
  pub name : List ℕ
  pub kind : OptionKind

-- ---- the command

-- the argument of `clap` for a flag
abbrev pub flag_rule : List ℕ → Rule
flag_rule name = record (new_rule name) { long = Some name; action = Some SetTrue }

-- the argument of `clap` for an option with a value
abbrev pub value_rule : List ℕ → Rule
value_rule name = record (new_rule name) { long = Some name; action = Some Set }

-- the argument of `clap` for one operand
abbrev pub operand_rule : List ℕ → Rule
operand_rule name = record (new_rule name) { action = Some Set }

-- the argument of `clap` for any number of operands
abbrev pub operands_rule : List ℕ → Rule
operands_rule name = record (new_rule name) { action = Some Append }

-- the argument of `clap` for an option of this kind
abbrev pub rule_of_kind : List ℕ → OptionKind → Rule
rule_of_kind name flag = flag_rule name
rule_of_kind name (value form) = value_rule name
rule_of_kind name (operand form) = operand_rule name
rule_of_kind name (operands form) = operands_rule name

-- a command without a program's name before the words, without help and version
abbrev pub bare_command : App
bare_command =
    on_top (λ s. record s { no_binary_name = true; disable_help_flag = true }) (new_app (codes "tsp"))

-- the simple command of a table
abbrev pub command_of : List OptionRow → App
command_of rows = fold (λ a row. with_rule a (rule_of_kind row.name row.kind)) bare_command rows

-- whether the command can read the words
unfoldable pub is_taken : App → List (List ℕ) → Bool
is_taken command words = length (fault_of command words) == 0

-- what the command finds in words that it can read
unfoldable pub findings : App → List (List ℕ) → List Row
findings command words = matches_of command words

-- ---- what was found

-- it is from the words, and not a default
abbrev pub is_by_words : Option ValueSource → Bool
is_by_words (Some CommandLine) = true
is_by_words _ = false

-- the flag is given
unfoldable pub has_flag : List ℕ → List Row → Bool
has_flag name found =
    option_map_or (λ row. is_by_words row.source) (find (λ row. bytes_eq row.id name) found) false

-- the value of an option or of an operand
unfoldable pub value_of : List ℕ → List Row → Option (List ℕ)
value_of name found = first_of name found

-- the option or the operand is given
abbrev pub has_value : List ℕ → List Row → Bool
has_value name found = is_some (value_of name found)

-- the operands, of which there may be any number
unfoldable pub values_of : List ℕ → List Row → List (List ℕ)
values_of name found = unwrap_or (all_of name found) []

-- the value, where it is given, has the form
abbrev pub is_formed : Form → List ℕ → List Row → Bool
is_formed form name found = option_map_or (has_form form) (value_of name found) true

-- what is given for a row of the table has the row's form
abbrev pub is_well_formed : List ℕ → OptionKind → List Row → Bool
is_well_formed name flag found = true
is_well_formed name (value form) found = is_formed form name found
is_well_formed name (operand form) found = is_formed form name found
is_well_formed name (operands form) found = list_all (has_form form) (values_of name found)

-- each value that is given has its form
abbrev pub are_well_formed : List OptionRow → List Row → Bool
are_well_formed rows found = list_all (λ row. is_well_formed row.name row.kind found) rows

-- a value as a reader of its form reads it, where it is given
abbrev pub read_value : {X : Type 0} → (List ℕ → Option X) → List ℕ → List Row → Option X
read_value reader name found = option_and_then reader (value_of name found)
