-- The options of `monitor`. This project's own rule.
use Rattle.std.specs.Prelude.{List, [], ◌∷◌, codes, true, unwrap_or}
use Rattle.clap.specs.Walk.{Row}
use Rattle.plugin_options.specs.declared.limits.TheConstants.{LAST_PID}
use Rattle.plugin_options.specs.Forms.{number}
use Rattle.plugin_options.specs.Number.{number_within}
use Rattle.plugin_options.specs.Options.{OptionRow, read_value, value}
use Rattle.plugin_options.specs.OptionTable.{OptionTable}
use Rattle.plug_monitor.specs.declared.limits.TheConstants.{DEFAULT_PID_GAP, DEFAULT_PRIORITY, MOST_BITRATE, MOST_PID_GAP, MOST_PRIORITY}
use Rattle.plug_monitor.specs.declared.monitor_conf.MonitorConf.{MonitorConf}

-- the options
abbrev pub monitor_rows : List OptionRow
monitor_rows = record { name = codes "priority"; kind = value (number 1 MOST_PRIORITY) }
    ∷ record { name = codes "bitrate"; kind = value (number 1 MOST_BITRATE) }
    ∷ record { name = codes "pid-gap"; kind = value (number 1 MOST_PID_GAP) }
    ∷ record { name = codes "pcr-pid"; kind = value (number 0 LAST_PID) }
    ∷ []

-- the settings of what is found
abbrev pub monitor_settings : List Row → MonitorConf
monitor_settings found = record {
  priority = unwrap_or (read_value (number_within 1 MOST_PRIORITY) (codes "priority") found) DEFAULT_PRIORITY;
  bitrate = read_value (number_within 1 MOST_BITRATE) (codes "bitrate") found;
  pid_gap = unwrap_or (read_value (number_within 1 MOST_PID_GAP) (codes "pid-gap") found) DEFAULT_PID_GAP;
  pcr_pid = read_value (number_within 0 LAST_PID) (codes "pcr-pid") found;
}

-- no option is mandatory, and all go together
abbrev pub monitor : OptionTable MonitorConf
monitor = record {
  rows = monitor_rows;
  has_needed = λ found. true;
  settings = monitor_settings;
  go_together = λ found. true;
}
