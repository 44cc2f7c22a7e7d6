-- Valid settings of `svrename`.
-- ISO/IEC 13818-1, 2.4.4.5: a program_number has 16 bits, and 0 is not that of a service. What may be given is this project's own
-- rule: something changes, and the texts are those of an `sdt` of this service alone.
use Rattle.std.specs.Prelude.{◌≡◌, ◌<◌, ◌||◌, ℕ, List, Bool, IsTrue, [], false, None, Option, Some, is_some}
use Rattle.std.specs.Option.{ForSome}
use Rattle.plug_edit.specs.declared.sdt_conf.EditSdtConf.{EditSdtConf}
use Rattle.plug_rename.specs.declared.rename_conf.RenameConf.{RenameConf}

-- the settings of an `sdt` that gives a service these texts, and changes nothing else
abbrev pub texts_for : ℕ → Option (List ℕ) → Option (List ℕ) → EditSdtConf
texts_for service name provider = record {
  remove_service = [];
  service = Some service;
  name = name;
  provider = provider;
  service_type = None;
  running_status = None;
  free_ca_mode = None;
  new_version = None;
  increment_version = false;
}

-- something is given that changes
abbrev pub changes : RenameConf → Bool
changes c = is_some c.id || (is_some c.texts.name || is_some c.texts.provider)

pub record IsValidRename (c : RenameConf) : Type 0 where
  pub service : (0 < c.service) × (c.service < 65536)
  pub id : ForSome c.id (λ id. (0 < id) × (id < 65536))
  pub texts : c.texts ≡ texts_for c.service c.texts.name c.texts.provider
  pub some : IsTrue (changes c)
