-- The settings that a value of `filter` has. This project's own rule.
use Rattle.plug_pass.specs.declared.filter_conf.FilterConf.{FilterConf}
use Rattle.plug_pass.specs.declared.filter.FilterSteps.{FilterSteps}

-- the settings of the plugin
abbrev pub conf_of : FilterSteps → FilterConf
conf_of s = record {
  pid = s.pids;
  pcr = s.pcr;
  unit_start = s.unit_start;
  scrambled = s.scrambled;
  label = s.label;
  negate = s.negate;
  stuffing = s.stuffing;
  set_label = s.set_label;
}
