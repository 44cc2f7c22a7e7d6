-- The options of a command as a table of the program: each row's name, kind and form, without its texts.
-- This project's own rule.
use Rattle.std.specs.Prelude.{ℕ, List, map}
use Rattle.std.specs.List.{list_any}
use Rattle.std.specs.Str.{bytes_eq}
use Rattle.clap.specs.Walk.{Rule}
use Rattle.plugin_options.specs.Forms.{Form, bytes, known, number, numbered, pair, pairs, part, ranges, ranges_from, signed, text}
use Rattle.plugin_options.specs.Options.{OptionRow, flag, operand, operands, rule_of_kind, value}
use Rattle.plugin_options.specs.declared.option_row.OptionRow.{OptionRow as GivenRow}
use Rattle.plugin_options.specs.declared.option_word.OptionWord.{OptionWord}
use Rattle.plugin_options.specs.declared.option_word.OptionWord.TheVariants.{Flag, Operand, Operands, Value}
use Rattle.plugin_options.specs.declared.sign.Sign.{Sign}
use Rattle.plugin_options.specs.declared.sign.Sign.TheVariants.{Equals, Slash}
use Rattle.plugin_options.specs.declared.takes.Takes.{Takes}
use Rattle.plugin_options.specs.declared.takes.Takes.TheVariants.{Bytes, Choice, Number, Numbered, Pair, Pairs, Part, Ranges, RangesFrom, Service, Signed, Text, Words}
use Rattle.plugin_options.specs.ServiceTexts.{is_service}
use Rattle.plugin_options.specs.WordLists.{are_known}

-- the character between the two numbers of a pair
abbrev pub code_of_sign : Sign → ℕ
code_of_sign Slash = 47
code_of_sign Equals = 61

-- the form of what is taken
abbrev pub form_of : Takes → Form
form_of (Number least most) = number least most
form_of (Signed least most) = signed least most
form_of (Ranges most) = ranges most
form_of (RangesFrom least most) = ranges_from least most
form_of (Pair sign first second) = pair (code_of_sign sign) first second
form_of (Pairs sign first second) = pairs (code_of_sign sign) first second
form_of (Bytes least most) = bytes least most
form_of (Part what) = part what
form_of (Numbered sign range what) = numbered (code_of_sign sign) range what
form_of (Choice names) = known (λ word. list_any (λ name. bytes_eq name.now word) names.now)
form_of (Words names) = known (are_known (λ word. list_any (λ name. bytes_eq name.now word) names.now))
form_of Service = known is_service
form_of Text = text

-- the row of an option
abbrev pub row_of_word : OptionWord → OptionRow
row_of_word (Flag name) = record { name = name.now; kind = flag }
row_of_word (Value name takes) = record { name = name.now; kind = value (form_of takes) }
row_of_word (Operand name takes) = record { name = name.now; kind = operand (form_of takes) }
row_of_word (Operands name takes) = record { name = name.now; kind = operands (form_of takes) }

-- the argument of `clap` for it
abbrev pub rule_of_word : OptionWord → Rule
rule_of_word word = rule_of_kind (row_of_word word).name (row_of_word word).kind

-- the rows of a table
abbrev pub rows_of_options : List GivenRow → List OptionRow
rows_of_options = map (λ row. row_of_word row.word)
