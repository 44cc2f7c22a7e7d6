-- The words of `skip`.
-- This project's own rule.
use Rattle.std.specs.Prelude.{List, [], ◌∷◌, codes, true, unwrap_or}
use Rattle.plug_pass.specs.declared.skip_conf.SkipConf.{SkipConf}
use Rattle.plugin_options.specs.declared.limits.TheConstants.{MOST_PACKETS}
use Rattle.plugin_options.specs.Forms.{number}
use Rattle.plugin_options.specs.Options.{OptionRow, has_value, operand, read_value}
use Rattle.plugin_options.specs.OptionTable.{OptionTable}
use Rattle.plugin_options.specs.Number.{number_within}

-- the options
abbrev pub skip_rows : List OptionRow
skip_rows = record { name = codes "operand"; kind = operand (number 0 MOST_PACKETS) } ∷ []

-- the number of packets, 0 to 2^40, has to be given
abbrev pub skip : OptionTable SkipConf
skip = record {
  rows = skip_rows;
  has_needed = has_value (codes "operand");
  settings = λ found. record {
    operand = unwrap_or (read_value (number_within 0 MOST_PACKETS) (codes "operand") found) 0;
  };
  go_together = λ found. true;
}
