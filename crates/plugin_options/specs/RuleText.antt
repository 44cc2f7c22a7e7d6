-- The text that is printed for each rule of the command line.
-- This project's own rule.
use Rattle.std.specs.Prelude.{ℕ, List, codes}
use Rattle.plugin_options.specs.declared.words_rule.WordsRule.{WordsRule}
use Rattle.plugin_options.specs.declared.words_rule.WordsRule.TheVariants.{Conflict, Missing, NoName, Shape, TooMany, Twice, UnknownPlugin, Value}

-- the text of a rule
abbrev pub rule_text : WordsRule → List ℕ
rule_text Twice = codes "second input or output"
rule_text NoName = codes "no name"
rule_text UnknownPlugin = codes "unknown plugin"
rule_text TooMany = codes "too many plugins"
rule_text Shape = codes "bad options"
rule_text Missing = codes "missing option"
rule_text Value = codes "bad value"
rule_text Conflict = codes "options in conflict"
