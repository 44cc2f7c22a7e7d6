-- The options of `continuity`. This project's own rule.
use Rattle.std.specs.Prelude.{List, [], ◌∷◌, codes, true, unwrap_or}
use Rattle.plugin_notes.specs.declared.continuity_conf.ContinuityConf.{ContinuityConf}
use Rattle.plugin_options.specs.declared.limits.TheConstants.{LAST_PID}
use Rattle.plugin_options.specs.Forms.{ranges}
use Rattle.plugin_options.specs.Options.{OptionRow, flag, has_flag, read_value, value}
use Rattle.plugin_options.specs.OptionTable.{OptionTable}
use Rattle.plugin_options.specs.Ranges.{ranges_of}

-- the options
abbrev pub continuity_rows : List OptionRow
continuity_rows = record { name = codes "pid"; kind = value (ranges LAST_PID) }
    ∷ record { name = codes "fix"; kind = flag }
    ∷ []

-- no option is mandatory
abbrev pub continuity : OptionTable ContinuityConf
continuity = record {
  rows = continuity_rows;
  has_needed = λ found. true;
  settings = λ found. record {
    pid = unwrap_or (read_value (ranges_of LAST_PID) (codes "pid") found) [];
    fix = has_flag (codes "fix") found;
  };
  go_together = λ found. true;
}
