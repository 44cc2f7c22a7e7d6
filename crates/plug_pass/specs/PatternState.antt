-- The settings that a value of `pattern` has. This project's own rule.
use Rattle.std.specs.Prelude.{◌≡◌, ℕ, List, Option}
use Rattle.plug_pass.specs.PatternSettings.{IsOffset}
use Rattle.ts_packet.specs.declared.numbers.TheConstants.{PAYLOAD_SIZE}
use Rattle.plug_pass.specs.PatternRule.{repeated}
use Rattle.plug_pass.specs.declared.pattern_conf.PatternConf.{PatternConf}
use Rattle.plug_pass.specs.declared.pattern.PatternSteps.{PatternSteps}

-- the settings of the plugin
abbrev pub conf_of : PatternSteps → PatternConf
conf_of s = record {
  operand = s.pattern;
  pid = s.pids;
  negate = s.negate;
  offset_pusi = s.offset_pusi;
  offset_non_pusi = s.offset_non_pusi;
}

-- the row of bytes is the pattern repeated, and the offsets lie in a payload
pub record IsMade (filled pattern : List ℕ) (with_start without_start : Option ℕ) : Type 0 where
  pub is_filled : filled ≡ repeated pattern PAYLOAD_SIZE
  pub first : IsOffset with_start
  pub second : IsOffset without_start
