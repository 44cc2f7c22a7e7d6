-- Valid settings of `sdt`.
-- ETSI EN 300 468, 5.2.3 and 6.2.33: a service_id has 16 bits, a service_type eight, a running_status three, free_CA_mode
-- one. This project's own rule: a change of a service needs its number, and at most one of the two options of the version
-- is given.
use Rattle.std.specs.Prelude.{◌<◌, ◌&&◌, ◌||◌, Bool, IsTrue, is_some, not}
use Rattle.std.specs.Option.{ForSome}
use Rattle.plugin_options.specs.NumberSet.{AllBelow}
use Rattle.plug_edit.specs.ServiceChange.{changes_descriptor}
use Rattle.plug_edit.specs.Versions.{IsVersion, versions_agree}
use Rattle.plug_edit.specs.declared.sdt_conf.EditSdtConf.{EditSdtConf}

-- something of a service is changed
abbrev pub changes_service : EditSdtConf → Bool
changes_service c = changes_descriptor c || (is_some c.running_status || is_some c.free_ca_mode)

-- a service is named if something of it is changed, and at most one option of the version is given
abbrev pub sdt_together : EditSdtConf → Bool
sdt_together c =
    not (changes_service c && not (is_some c.service)) && versions_agree c.new_version c.increment_version

-- each number is in its range, and no two options exclude each other
pub record IsValidSdt (c : EditSdtConf) : Type 0 where
  pub removed : AllBelow 65536 c.remove_service
  pub service : ForSome c.service (λ id. id < 65536)
  pub type : ForSome c.service_type (λ type. type < 256)
  pub running : ForSome c.running_status (λ status. status < 8)
  pub scrambled : ForSome c.free_ca_mode (λ mode. mode < 2)
  pub version : IsVersion c.new_version
  pub together : IsTrue (sdt_together c)
