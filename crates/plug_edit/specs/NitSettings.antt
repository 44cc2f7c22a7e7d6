-- Valid settings of `nit`.
-- ETSI EN 300 468, 5.2.1: a network_id and a transport_stream_id have 16 bits. This project's own rule: at most one of
-- the two options of the version is given.
use Rattle.std.specs.Prelude.{◌<◌, IsTrue}
use Rattle.std.specs.Option.{ForSome}
use Rattle.plugin_options.specs.NumberSet.{AllBelow}
use Rattle.plug_edit.specs.Versions.{IsVersion, versions_agree}
use Rattle.plug_edit.specs.declared.nit_conf.EditNitConf.{EditNitConf}

-- each number is in its range, and no two options exclude each other
pub record IsValidNit (c : EditNitConf) : Type 0 where
  pub removed : AllBelow 65536 c.remove_ts
  pub network : ForSome c.network_id (λ id. id < 65536)
  pub version : IsVersion c.new_version
  pub agree : IsTrue (versions_agree c.new_version c.increment_version)
