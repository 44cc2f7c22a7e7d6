-- Valid settings of `pat`.
-- ISO/IEC 13818-1, 2.4.4.5: a transport_stream_id and a program_number have 16 bits, a PID has 13. This project's own
-- rule: a service has a number above 0, and at most one of the two options of the version is given.
use Rattle.std.specs.Prelude.{ℕ, ◌<◌, ◌≤◌, IsTrue}
use Rattle.std.specs.Option.{ForSome}
use Rattle.std.specs.List.{All}
use Rattle.ts_packet.specs.declared.numbers.TheConstants.{PID_COUNT}
use Rattle.plugin_options.specs.NumberSet.{AllBelow}
use Rattle.plug_edit.specs.Versions.{IsVersion, versions_agree}
use Rattle.plug_edit.specs.declared.pat_conf.EditPatConf.{EditPatConf}

-- a number of a service and a PID
pub record IsAddedService (pair : ℕ × ℕ) : Type 0 where
  pub service : 0 < pair.0
  pub below : pair.0 < 65536
  pub pid : pair.1 < PID_COUNT

-- each number is in its range, and no two options exclude each other
pub record IsValidPat (c : EditPatConf) : Type 0 where
  pub added : All IsAddedService c.add_service
  pub removed : AllBelow 65536 c.remove_service
  pub services : All (λ pair. 1 ≤ pair.0) c.remove_service
  pub stream : ForSome c.ts_id (λ id. id < 65536)
  pub network : ForSome c.nit (λ pid. pid < PID_COUNT)
  pub version : IsVersion c.new_version
  pub agree : IsTrue (versions_agree c.new_version c.increment_version)
