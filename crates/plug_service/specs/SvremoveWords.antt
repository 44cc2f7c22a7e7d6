-- The options of `svremove`, and its settings from the values.
-- This project's own rule.
use Rattle.std.specs.Prelude.{List, [], ◌∷◌, codes}
use Rattle.plugin_options.specs.Forms.{known}
use Rattle.plugin_options.specs.Options.{OptionRow, flag, has_flag, operands}
use Rattle.plugin_options.specs.OptionTable.{OptionTable}
use Rattle.plugin_options.specs.ServiceTexts.{is_service}
use Rattle.plug_service.specs.ServiceWords.{service_options}
use Rattle.plug_service.specs.declared.svremove_conf.SvremoveConf.{SvremoveConf}

-- the operands are the services, by number or by name
abbrev pub svremove_rows : List OptionRow
svremove_rows = record { name = codes "operand"; kind = operands (known is_service) }
    ∷ record { name = codes "everywhere"; kind = flag }
    ∷ record { name = codes "stuffing"; kind = flag }
    ∷ []

-- the services are given, and how many go together, as with `zap`
abbrev pub svremove_options : OptionTable SvremoveConf
svremove_options = record {
  rows = svremove_rows;
  has_needed = service_options.has_needed;
  settings = λ found. record { service = service_options.settings found; everywhere = has_flag (codes "everywhere") found };
  go_together = service_options.go_together;
}
