-- The words of `eit`. This project's own rule.
use Rattle.std.specs.Prelude.{◌&&◌, ◌||◌, List, [], ◌∷◌, Bool, codes, unwrap_or}
use Rattle.clap.specs.Walk.{Row}
use Rattle.plugin_options.specs.Forms.{known, number, signed, text}
use Rattle.plugin_options.specs.Number.{number_within}
use Rattle.plugin_options.specs.Options.{OptionRow, flag, has_flag, has_value, read_value, value, value_of}
use Rattle.plugin_options.specs.OptionTable.{OptionTable}
use Rattle.plugin_options.specs.ServiceTexts.{is_service}
use Rattle.plugin_options.specs.Signed.{signed_within}
use Rattle.named_services.specs.ServiceWords.{word_of}
use Rattle.named_services.specs.declared.service_word.ServiceWord.TheVariants.{Number}
use Rattle.plug_time.specs.declared.numbers.TheConstants.{LEAST_SHIFT, MOST_SHIFT}
use Rattle.plug_eit.specs.EitSettings.{eit_together}
use Rattle.plug_eit.specs.declared.eit_conf.EitConf.{EitConf}
use Rattle.plug_eit.specs.declared.numbers.TheConstants.{LAST_ID, LAST_MODE, LAST_STATUS}

-- the options; a service is given by its number or its name
abbrev pub eit_rows : List OptionRow
eit_rows = record { name = codes "service"; kind = value (known is_service) }
    ∷ record { name = codes "event"; kind = value (number 0 LAST_ID) }
    ∷ record { name = codes "name"; kind = value text }
    ∷ record { name = codes "text"; kind = value text }
    ∷ record { name = codes "shift"; kind = value (signed LEAST_SHIFT MOST_SHIFT) }
    ∷ record { name = codes "running-status"; kind = value (number 0 LAST_STATUS) }
    ∷ record { name = codes "free-ca-mode"; kind = value (number 0 LAST_MODE) }
    ∷ record { name = codes "remove"; kind = flag }
    ∷ []

-- the settings of what is found
abbrev pub eit_settings : List Row → EitConf
eit_settings found = record {
  service = unwrap_or (read_value word_of (codes "service") found) (Number 0);
  event = read_value (number_within 0 LAST_ID) (codes "event") found;
  name = value_of (codes "name") found;
  text = value_of (codes "text") found;
  shift = read_value (signed_within LEAST_SHIFT MOST_SHIFT) (codes "shift") found;
  running_status = read_value (number_within 0 LAST_STATUS) (codes "running-status") found;
  free_ca_mode = read_value (number_within 0 LAST_MODE) (codes "free-ca-mode") found;
  remove = has_flag (codes "remove") found;
}

-- what is done with the events is given
abbrev pub is_edit_given : List Row → Bool
is_edit_given found =
    has_value (codes "name") found || (has_value (codes "text") found || (has_value (codes "shift") found
    || (has_value (codes "running-status") found || (has_value (codes "free-ca-mode") found || has_flag (codes "remove") found))))

-- the service has to be given, and what is done with its events
abbrev pub eit : OptionTable EitConf
eit = record {
  rows = eit_rows;
  has_needed = λ found. has_value (codes "service") found && is_edit_given found;
  settings = eit_settings;
  go_together = λ found. eit_together (eit_settings found);
}
