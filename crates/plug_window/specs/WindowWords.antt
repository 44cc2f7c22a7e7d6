-- The options of `compact` and `rmorphan`. This project's own rule.
use Rattle.std.specs.Prelude.{List, [], ◌∷◌, codes, true, unwrap_or}
use Rattle.plugin_options.specs.declared.limits.TheConstants.{MOST_WINDOW}
use Rattle.plugin_options.specs.Forms.{number}
use Rattle.plugin_options.specs.Number.{number_within}
use Rattle.plugin_options.specs.Options.{OptionRow, flag, has_flag, has_value, read_value, value}
use Rattle.plugin_options.specs.OptionTable.{OptionTable}
use Rattle.plug_window.specs.declared.window_conf.WindowConf.{WindowConf}

-- the options
abbrev pub window_rows : List OptionRow
window_rows = record { name = codes "window"; kind = value (number 1 MOST_WINDOW) }
    ∷ record { name = codes "stuffing"; kind = flag }
    ∷ []

-- the window, 1 to 100,000 packets, is mandatory
abbrev pub window : OptionTable WindowConf
window = record {
  rows = window_rows;
  has_needed = has_value (codes "window");
  settings = λ found. record {
    window = unwrap_or (read_value (number_within 1 MOST_WINDOW) (codes "window") found) 1;
    stuffing = has_flag (codes "stuffing") found;
  };
  go_together = λ found. true;
}
