-- The options of `restuff`. This project's own rule.
use Rattle.std.specs.Prelude.{ℕ, List, [], ◌∷◌, codes, ◌&&◌, nat_le, unwrap_or}
use Rattle.clap.specs.Walk.{Row}
use Rattle.plugin_options.specs.declared.limits.TheConstants.{MOST_WINDOW}
use Rattle.plugin_options.specs.Forms.{number}
use Rattle.plugin_options.specs.Number.{number_within}
use Rattle.plugin_options.specs.Options.{OptionRow, has_value, read_value, value}
use Rattle.plugin_options.specs.OptionTable.{OptionTable}
use Rattle.plug_restuff.specs.declared.limits.TheConstants.{DEFAULT_WINDOW, LEAST_RATE, MOST_RATE}
use Rattle.plug_restuff.specs.declared.restuff_conf.RestuffConf.{RestuffConf}

-- the options
abbrev pub restuff_rows : List OptionRow
restuff_rows = record { name = codes "from"; kind = value (number LEAST_RATE MOST_RATE) }
    ∷ record { name = codes "to"; kind = value (number LEAST_RATE MOST_RATE) }
    ∷ record { name = codes "window"; kind = value (number 1 MOST_WINDOW) }
    ∷ []

-- the rate of an option
abbrev pub rate_of : List ℕ → List Row → ℕ
rate_of name found = unwrap_or (read_value (number_within LEAST_RATE MOST_RATE) name found) LEAST_RATE

-- the settings given by the options that were found
abbrev pub restuff_settings : List Row → RestuffConf
restuff_settings found = record {
  from = rate_of (codes "from") found;
  to = rate_of (codes "to") found;
  window = unwrap_or (read_value (number_within 1 MOST_WINDOW) (codes "window") found) DEFAULT_WINDOW;
}

-- both rates are mandatory, and the second is not above the first
abbrev pub restuff : OptionTable RestuffConf
restuff = record {
  rows = restuff_rows;
  has_needed = λ found. has_value (codes "from") found && has_value (codes "to") found;
  settings = restuff_settings;
  go_together = λ found. nat_le (restuff_settings found).to (restuff_settings found).from;
}
