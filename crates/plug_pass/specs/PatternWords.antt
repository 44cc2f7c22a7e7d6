-- The words of `pattern`.
-- This project's own rule.
use Rattle.std.specs.Prelude.{List, [], ◌∷◌, codes, true, unwrap_or}
use Rattle.plug_pass.specs.declared.pattern_conf.PatternConf.{PatternConf}
use Rattle.ts_packet.specs.declared.numbers.TheConstants.{PAYLOAD_SIZE}
use Rattle.plugin_options.specs.declared.limits.TheConstants.{LAST_OFFSET, LAST_PID}
use Rattle.plugin_options.specs.Forms.{bytes, number, ranges}
use Rattle.plugin_options.specs.Options.{OptionRow, flag, has_flag, has_value, operand, read_value, value}
use Rattle.plugin_options.specs.OptionTable.{OptionTable}
use Rattle.plugin_options.specs.HexText.{bytes_of}
use Rattle.plugin_options.specs.Number.{number_within}
use Rattle.plugin_options.specs.Ranges.{ranges_of}

-- the options
abbrev pub pattern_rows : List OptionRow
pattern_rows = record { name = codes "operand"; kind = operand (bytes 1 PAYLOAD_SIZE) }
    ∷ record { name = codes "pid"; kind = value (ranges LAST_PID) }
    ∷ record { name = codes "offset-pusi"; kind = value (number 0 LAST_OFFSET) }
    ∷ record { name = codes "offset-non-pusi"; kind = value (number 0 LAST_OFFSET) }
    ∷ record { name = codes "negate"; kind = flag }
    ∷ []

-- the pattern has to be given
abbrev pub pattern : OptionTable PatternConf
pattern = record {
  rows = pattern_rows;
  has_needed = has_value (codes "operand");
  settings = λ found. record {
    operand = unwrap_or (read_value (bytes_of 1 PAYLOAD_SIZE) (codes "operand") found) [];
    pid = unwrap_or (read_value (ranges_of LAST_PID) (codes "pid") found) [];
    negate = has_flag (codes "negate") found;
    offset_pusi = read_value (number_within 0 LAST_OFFSET) (codes "offset-pusi") found;
    offset_non_pusi = read_value (number_within 0 LAST_OFFSET) (codes "offset-non-pusi") found;
  };
  go_together = λ found. true;
}
