-- When what is kept of all PIDs stands for the packets that were processed. This project's own rule.
use Rattle.std.specs.Prelude.{ℕ, List}
use Rattle.ts_demux.specs.PidTables as reading
use Rattle.ts_demux.specs.declared.pid_tables.PidTables.{PidTables}
use Rattle.plug_psi.specs.ByPid.{AllStand}
use Rattle.plug_psi.specs.ForceStands as forcing
use Rattle.plug_psi.specs.declared.by_pid.ByPid.{ByPid}
use Rattle.plug_psi.specs.declared.in_force.InForce.{InForce}
use Rattle.plug_tables.specs.WatchedPackets.{Choice, is_watched}
use Rattle.plug_tables.specs.declared.table_reader.TableReader.{TableReader}

-- the parts stand for the packets that were processed
pub record ReadsWatched (force : InForce) (readers : ByPid PidTables) (choice : Choice) (met : List (List ℕ)) : Type 0 where
  pub fed : forcing.StandsFor force met
  pub entries : AllStand reading.StandsFor readers (is_watched choice) met

-- the choice of PIDs
abbrev pub choice_in : TableReader → Choice
choice_in s = record { listed = s.pids; follows = s.follows }

-- the whole stands for the packets that were processed
abbrev pub HasMet : TableReader → List (List ℕ) → Type 0
HasMet s met = ReadsWatched s.force s.readers (choice_in s) met
