-- The inputs: `file [NAME] [--format F] [--resync]`, `null N` and `testgen SEED N`.
-- This project's own rule.
use Rattle.std.specs.Prelude.{ℕ, ◌&&◌, Bool, is_some, List, [], ◌∷◌, None, Option, Some, codes, if◌then◌else◌, true, unwrap_or}
use Rattle.std.specs.Str.{bytes_eq}
use Rattle.plugin_options.specs.declared.limits.TheConstants.{MOST_PACKETS}
use Rattle.packet_forms.specs.declared.forms.Form.{Form}
use Rattle.packet_forms.specs.declared.forms.Form.TheVariants.{Ts, M2ts, Rs204}
use Rattle.plugin_options.specs.Forms.{known, number, text}
use Rattle.plugin_options.specs.Number.{number_within}
use Rattle.plugin_options.specs.Options.{flag, has_flag, has_value, operand, read_value, value, value_of}
use Rattle.plugin_options.specs.OptionTable.{OptionTable}
use Rattle.chain_args.specs.declared.input_conf.TheConstants.{MOST_SEED}
use Rattle.chain_args.specs.declared.input_words.InputKind.{InputKind}
use Rattle.chain_args.specs.declared.input_words.InputKind.TheVariants as kind
use Rattle.chain_args.specs.declared.input_conf.InputConf.{InputConf}
use Rattle.chain_args.specs.declared.input_conf.InputConf.TheVariants.{File, Null, TestGen}

-- the forms of files by their names
abbrev pub form_named : List ℕ → Option Form
form_named name = if bytes_eq name (codes "ts") then Some Ts
    else (if bytes_eq name (codes "m2ts") then Some M2ts
    else (if bytes_eq name (codes "rs204") then Some Rs204 else None))

abbrev pub is_form : List ℕ → Bool
is_form name = is_some (form_named name)

-- `file`: a name, standard input where it is empty or not given; the form of the packets in the file, bare packets where
-- it is not given; and whether they are found again
abbrev pub file_input : OptionTable InputConf
file_input = record {
  rows = record { name = codes "name"; kind = operand text }
      ∷ record { name = codes "format"; kind = value (known is_form) }
      ∷ record { name = codes "resync"; kind = flag }
      ∷ [];
  has_needed = λ found. true;
  settings = λ found.
      File (unwrap_or (value_of (codes "name") found) [])
      (unwrap_or (read_value form_named (codes "format") found) Ts)
      (has_flag (codes "resync") found);
  go_together = λ found. true;
}

-- `null`: a number of packets, 0 to 2^40
abbrev pub null_input : OptionTable InputConf
null_input = record {
  rows = record { name = codes "count"; kind = operand (number 0 MOST_PACKETS) } ∷ [];
  has_needed = has_value (codes "count");
  settings = λ found.
      Null (unwrap_or (read_value (number_within 0 MOST_PACKETS) (codes "count") found) 0);
  go_together = λ found. true;
}

-- `testgen`: a seed, 0 to 2^64 - 1, and a number of packets, 0 to 2^40
abbrev pub testgen_input : OptionTable InputConf
testgen_input = record {
  rows = record { name = codes "seed"; kind = operand (number 0 MOST_SEED) }
      ∷ record { name = codes "count"; kind = operand (number 0 MOST_PACKETS) }
      ∷ [];
  has_needed = λ found. has_value (codes "seed") found && has_value (codes "count") found;
  settings = λ found.
      TestGen (unwrap_or (read_value (number_within 0 MOST_SEED) (codes "seed") found) 0)
      (unwrap_or (read_value (number_within 0 MOST_PACKETS) (codes "count") found) 0);
  go_together = λ found. true;
}

-- the inputs by their names
abbrev pub input_kind_named : List ℕ → Option InputKind
input_kind_named name = if bytes_eq name (codes "file") then Some kind.File
    else (if bytes_eq name (codes "null") then Some kind.Null
    else (if bytes_eq name (codes "testgen") then Some kind.TestGen else None))

-- the options of each
abbrev pub options_of_input : InputKind → OptionTable InputConf
options_of_input kind.File = file_input
options_of_input kind.Null = null_input
options_of_input kind.TestGen = testgen_input
