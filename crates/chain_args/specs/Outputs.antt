-- The outputs: `file [NAME]` and `drop`.
-- This project's own rule.
use Rattle.std.specs.Prelude.{ℕ, List, [], ◌∷◌, None, Option, Some, codes, if◌then◌else◌, true, unwrap_or}
use Rattle.std.specs.Str.{bytes_eq}
use Rattle.plugin_options.specs.Forms.{text}
use Rattle.plugin_options.specs.Options.{operand, value_of}
use Rattle.plugin_options.specs.OptionTable.{OptionTable}
use Rattle.chain_args.specs.declared.output_words.OutputKind.{OutputKind}
use Rattle.chain_args.specs.declared.output_words.OutputKind.TheVariants as kind
use Rattle.chain_args.specs.declared.output_conf.OutputConf.{OutputConf}
use Rattle.chain_args.specs.declared.output_conf.OutputConf.TheVariants.{Drop, File}

-- `file`: a name, standard output where it is empty or not given
abbrev pub file_output : OptionTable OutputConf
file_output = record {
  rows = record { name = codes "name"; kind = operand text } ∷ [];
  has_needed = λ found. true;
  settings = λ found. File (unwrap_or (value_of (codes "name") found) []);
  go_together = λ found. true;
}

-- `drop`: no options and no operands
abbrev pub drop_output : OptionTable OutputConf
drop_output = record {
  rows = [];
  has_needed = λ found. true;
  settings = λ found. Drop;
  go_together = λ found. true;
}

-- the outputs by their names
abbrev pub output_kind_named : List ℕ → Option OutputKind
output_kind_named name = if bytes_eq name (codes "file") then Some kind.File
    else (if bytes_eq name (codes "drop") then Some kind.Drop else None)

-- the options of each
abbrev pub options_of_output : OutputKind → OptionTable OutputConf
options_of_output kind.File = file_output
options_of_output kind.Drop = drop_output
