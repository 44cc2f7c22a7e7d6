-- The options of `zap` and `svremove`, and their settings from the values.
-- This project's own rule.
use Rattle.std.specs.Prelude.{ℕ, ◌==◌, List, [], ◌∷◌, codes, length, nat_le, not}
use Rattle.clap.specs.Walk.{Row}
use Rattle.plugin_options.specs.Forms.{known}
use Rattle.plugin_options.specs.Options.{OptionRow, flag, has_flag, operands, values_of}
use Rattle.plugin_options.specs.OptionTable.{OptionTable}
use Rattle.plugin_options.specs.ServiceTexts.{is_service}
use Rattle.named_services.specs.ServiceWords.{words_of}
use Rattle.named_services.specs.declared.service_word.ServiceWord.{ServiceWord}
use Rattle.plug_service.specs.declared.limits.TheConstants.{MOST_SERVICES}
use Rattle.plug_service.specs.declared.service_conf.ServiceConf.{ServiceConf}

-- the operands are the services, by number or by name
abbrev pub service_rows : List OptionRow
service_rows = record { name = codes "operand"; kind = operands (known is_service) }
    ∷ record { name = codes "stuffing"; kind = flag }
    ∷ []

-- the words that say which services are meant: each once, however often it is given
abbrev pub services_found : List Row → List ServiceWord
services_found found = words_of (values_of (codes "operand") found)

-- the settings from the values that were found
abbrev pub service_settings : List Row → ServiceConf
service_settings found = record { services = services_found found; stuffing = has_flag (codes "stuffing") found }

-- at least one service has to be given, and more than 62 do not go together
abbrev pub service_options : OptionTable ServiceConf
service_options = record {
  rows = service_rows;
  has_needed = λ found. not (length (values_of (codes "operand") found) == 0);
  settings = service_settings;
  go_together = λ found. nat_le (length (services_found found)) MOST_SERVICES;
}
