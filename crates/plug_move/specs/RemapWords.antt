-- The options of `remap`, and its settings from their values.
-- This project's own rule.
use Rattle.std.specs.Prelude.{ℕ, ◌==◌, List, [], ◌∷◌, Option, codes, filter_map, length, not}
use Rattle.clap.specs.Walk.{Row}
use Rattle.plug_move.specs.RemapSettings.{pairs_agree}
use Rattle.plug_move.specs.declared.remap_conf.RemapConf.{RemapConf}
use Rattle.plugin_options.specs.declared.limits.TheConstants.{LAST_PID}
use Rattle.plugin_options.specs.Forms.{pair}
use Rattle.plugin_options.specs.Options.{OptionRow, flag, has_flag, operands, values_of}
use Rattle.plugin_options.specs.OptionTable.{OptionTable}
use Rattle.plugin_options.specs.Pairs.{pair_of}

-- the byte `=`
abbrev pub equals_sign : ℕ
equals_sign = 61

-- a source and a target
abbrev pub pid_pair_of : List ℕ → Option (ℕ × ℕ)
pid_pair_of = pair_of equals_sign (0, LAST_PID) (0, LAST_PID)

-- the options
abbrev pub remap_rows : List OptionRow
remap_rows = record {
  name = codes "operand";
  kind = operands (pair equals_sign (0, LAST_PID) (0, LAST_PID));
}
    ∷ record { name = codes "no-psi"; kind = flag }
    ∷ record { name = codes "unchecked"; kind = flag }
    ∷ []

-- the settings from the values that were found
abbrev pub remap_settings : List Row → RemapConf
remap_settings found = record {
  operand = filter_map pid_pair_of (values_of (codes "operand") found);
  no_psi = has_flag (codes "no-psi") found;
  unchecked = has_flag (codes "unchecked") found;
}

-- at least one pair has to be given
abbrev pub remap : OptionTable RemapConf
remap = record {
  rows = remap_rows;
  has_needed = λ found. not (length (values_of (codes "operand") found) == 0);
  settings = remap_settings;
  go_together = λ found. pairs_agree (remap_settings found);
}
