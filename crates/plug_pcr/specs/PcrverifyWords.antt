-- The options of `pcrverify`. This project's own rule.
use Rattle.std.specs.Prelude.{List, [], ◌∷◌, codes, true, unwrap_or}
use Rattle.clap.specs.Walk.{Row}
use Rattle.plugin_options.specs.declared.limits.TheConstants.{LAST_PID}
use Rattle.plugin_options.specs.Forms.{number, ranges}
use Rattle.plugin_options.specs.Number.{number_within}
use Rattle.plugin_options.specs.Options.{OptionRow, has_value, read_value, value}
use Rattle.plugin_options.specs.OptionTable.{OptionTable}
use Rattle.plugin_options.specs.Ranges.{ranges_of}
use Rattle.plug_pcr.specs.declared.limits.TheConstants.{DEFAULT_JITTER, MOST_BITRATE, MOST_JITTER}
use Rattle.plug_pcr.specs.declared.pcrverify_conf.PcrverifyConf.{PcrverifyConf}

-- the options
abbrev pub pcrverify_rows : List OptionRow
pcrverify_rows = record { name = codes "bitrate"; kind = value (number 1 MOST_BITRATE) }
    ∷ record { name = codes "jitter-max"; kind = value (number 0 MOST_JITTER) }
    ∷ record { name = codes "pid"; kind = value (ranges LAST_PID) }
    ∷ []

-- the settings given by the options that were found
abbrev pub pcrverify_settings : List Row → PcrverifyConf
pcrverify_settings found = record {
  bitrate = unwrap_or (read_value (number_within 1 MOST_BITRATE) (codes "bitrate") found) 1;
  jitter_max = unwrap_or (read_value (number_within 0 MOST_JITTER) (codes "jitter-max") found) DEFAULT_JITTER;
  pid = unwrap_or (read_value (ranges_of LAST_PID) (codes "pid") found) [];
}

-- the bit rate is mandatory
abbrev pub pcrverify : OptionTable PcrverifyConf
pcrverify = record {
  rows = pcrverify_rows;
  has_needed = has_value (codes "bitrate");
  settings = pcrverify_settings;
  go_together = λ found. true;
}
