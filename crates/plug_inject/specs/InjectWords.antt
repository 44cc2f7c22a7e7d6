-- The options of `inject`. This project's own rule.
use Rattle.std.specs.Prelude.{ℕ, List, [], ◌∷◌, ◌&&◌, ◌||◌, not, codes, unwrap_or}
use Rattle.clap.specs.Walk.{Row}
use Rattle.plugin_options.specs.Forms.{number, pairs, text}
use Rattle.plugin_options.specs.Number.{number_within}
use Rattle.plugin_options.specs.Options.{OptionRow, flag, has_flag, has_value, operand, read_value, value, value_of}
use Rattle.plugin_options.specs.OptionTable.{OptionTable}
use Rattle.plugin_options.specs.Pairs.{pairs_of}
use Rattle.plugin_options.specs.declared.limits.TheConstants.{MOST_NUMBER}
use Rattle.plug_inject.specs.InjectSettings.{mode_of}
use Rattle.plug_inject.specs.declared.inject_conf.InjectConf.{InjectConf}
use Rattle.plug_inject.specs.declared.inject_conf.TheConstants.{LAST_CARRIER, LAST_TABLE}

-- the sign of a pair, `/`
abbrev pub slash : ℕ
slash = 47

-- the options
abbrev pub inject_rows : List OptionRow
inject_rows = record { name = codes "operand"; kind = operand text }
    ∷ record { name = codes "pid"; kind = value (number 0 LAST_CARRIER) }
    ∷ record { name = codes "replace"; kind = flag }
    ∷ record { name = codes "inter-packet"; kind = value (number 1 MOST_NUMBER) }
    ∷ record { name = codes "every"; kind = value (pairs slash (0, LAST_TABLE) (1, MOST_NUMBER)) }
    ∷ record { name = codes "fix-counters"; kind = flag }
    ∷ []

-- the settings given by the options that were found
abbrev pub inject_settings : List Row → InjectConf
inject_settings found = record {
  file = unwrap_or (value_of (codes "operand") found) [];
  pid = unwrap_or (read_value (number_within 0 LAST_CARRIER) (codes "pid") found) 0;
  mode = mode_of (read_value (number_within 1 MOST_NUMBER) (codes "inter-packet") found);
  fix_counters = has_flag (codes "fix-counters") found;
  every = unwrap_or (read_value (pairs_of slash (0, LAST_TABLE) (1, MOST_NUMBER)) (codes "every") found) [];
}

-- the file and the PID are mandatory, and so is exactly one of the two modes
abbrev pub inject : OptionTable InjectConf
inject = record {
  rows = inject_rows;
  has_needed = λ found. has_value (codes "operand") found && (has_value (codes "pid") found
      && (has_flag (codes "replace") found || has_value (codes "inter-packet") found));
  settings = inject_settings;
  go_together = λ found. not (has_flag (codes "replace") found && has_value (codes "inter-packet") found);
}
