-- Valid settings of `cat`.
-- ISO/IEC 13818-1, 2.6.16: a CA_system_id has 16 bits, a CA_PID has 13. This project's own rule: at most one of the two
-- options of the version is given.
use Rattle.std.specs.Prelude.{ℕ, ◌<◌, IsTrue}
use Rattle.std.specs.List.{All}
use Rattle.ts_packet.specs.declared.numbers.TheConstants.{PID_COUNT}
use Rattle.plugin_options.specs.NumberSet.{AllBelow}
use Rattle.plug_edit.specs.Versions.{IsVersion, versions_agree}
use Rattle.plug_edit.specs.declared.cat_conf.EditCatConf.{EditCatConf}

-- a CA system and a PID
pub record IsAddedCa (pair : ℕ × ℕ) : Type 0 where
  pub system : pair.0 < 65536
  pub pid : pair.1 < PID_COUNT

-- each number is in its range, and no two options exclude each other
pub record IsValidCat (c : EditCatConf) : Type 0 where
  pub added : All IsAddedCa c.add_ca
  pub systems : AllBelow 65536 c.remove_casid
  pub pids : AllBelow PID_COUNT c.remove_pid
  pub version : IsVersion c.new_version
  pub agree : IsTrue (versions_agree c.new_version c.increment_version)
