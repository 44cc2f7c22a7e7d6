-- Valid settings of `zap` and `svremove`.
-- ISO/IEC 13818-1, 2.4.4.5: a program_number has 16 bits, and 0 is not that of a service. The rest is this project's own rule.
use Rattle.std.specs.Prelude.{◌<◌, ◌≤◌, length}
use Rattle.std.specs.List.{All, IsDistinct}
use Rattle.named_services.specs.ServiceWords.{SaysService, is_same}
use Rattle.plug_service.specs.declared.limits.TheConstants.{MOST_SERVICES}
use Rattle.plug_service.specs.declared.service_conf.ServiceConf.{ServiceConf}

-- each word says which service is meant, by its number or a name; there is at least one, at most 62, and none of them twice
pub record IsValidService (c : ServiceConf) : Type 0 where
  pub words : All SaysService c.services
  pub some : 0 < length c.services
  pub few : length c.services ≤ MOST_SERVICES
  pub different : IsDistinct is_same c.services
