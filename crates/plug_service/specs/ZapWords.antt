-- The options of `zap`, and its settings from the values.
-- This project's own rule.
use Rattle.std.specs.Prelude.{ℕ, Bool, List, [], ◌∷◌, codes, false}
use Rattle.std.specs.List.{list_any}
use Rattle.std.specs.Option.{option_map_or}
use Rattle.std.specs.Str.{bytes_eq}
use Rattle.clap.specs.Walk.{Row}
use Rattle.plugin_options.specs.Forms.{known}
use Rattle.plugin_options.specs.Options.{OptionRow, flag, operands, value, value_of}
use Rattle.plugin_options.specs.OptionTable.{OptionTable}
use Rattle.plugin_options.specs.ServiceTexts.{is_service}
use Rattle.plugin_options.specs.WordLists.{are_known, has_part}
use Rattle.plug_service.specs.ServiceWords.{service_options}
use Rattle.plug_service.specs.declared.kept.Kept.{Kept}
use Rattle.plug_service.specs.declared.zap_conf.ZapConf.{ZapConf}

-- a word of what is kept beside the services
abbrev pub is_kept_word : List ℕ → Bool
is_kept_word word = list_any (λ name. bytes_eq name word) (codes "nit" ∷ codes "bat" ∷ codes "eit" ∷ codes "time" ∷ [])

-- the operands are the services, by number or by name
abbrev pub zap_rows : List OptionRow
zap_rows = record { name = codes "operand"; kind = operands (known is_service) }
    ∷ record { name = codes "keep"; kind = value (known (are_known is_kept_word)) }
    ∷ record { name = codes "stuffing"; kind = flag }
    ∷ []

-- a word is given with the option, alone or beside others
abbrev pub keeps : List ℕ → List Row → Bool
keeps word found = option_map_or (has_part word) (value_of (codes "keep") found) false

-- what is kept
abbrev pub kept_found : List Row → Kept
kept_found found = record {
  nit = keeps (codes "nit") found;
  bat = keeps (codes "bat") found;
  eit = keeps (codes "eit") found;
  time = keeps (codes "time") found;
}

-- the services are given, and how many go together, as with `svremove`
abbrev pub zap_options : OptionTable ZapConf
zap_options = record {
  rows = zap_rows;
  has_needed = service_options.has_needed;
  settings = λ found. record { service = service_options.settings found; kept = kept_found found };
  go_together = service_options.go_together;
}
