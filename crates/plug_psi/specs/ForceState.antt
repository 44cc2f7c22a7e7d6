-- When what is kept of the tables in force stands for the packets that were fed.
-- This project's own rule.
use Rattle.std.specs.Prelude.{◌≡◌, ℕ, Bool, false, List, Option}
use Rattle.ts_demux.specs.TablesOn.{packets_on}
use Rattle.ts_psi.specs.declared.pat.Pat.{Pat}
use Rattle.plug_psi.specs.ByPid.{AllStand}
use Rattle.plug_psi.specs.InForce.{follows}
use Rattle.plug_psi.specs.KeptTables.{KeepsPat, KeepsPmts}
use Rattle.plug_psi.specs.ReadingState.{Reads}
use Rattle.plug_psi.specs.declared.by_pid.ByPid.{ByPid}
use Rattle.plug_psi.specs.declared.kept_pmts.KeptPmts.{KeptPmts}
use Rattle.plug_psi.specs.declared.reading.Reading.{Reading}

-- the PAT that is kept is that of all packets
abbrev pub HasPat : Reading (Option Pat) → List (List ℕ) → Type 0
HasPat zero fed = Reads KeepsPat zero 0 (packets_on 0 fed)

-- the PMTs that are kept are those of the packets on the PIDs that the PAT in force names
abbrev pub HavePmts : ByPid (Reading KeptPmts) → List (List ℕ) → Type 0
HavePmts pids fed = AllStand (Reads KeepsPmts) pids follows fed

-- the parts stand for the packets that were fed
pub record Forces (zero : Reading (Option Pat)) (pids : ByPid (Reading KeptPmts)) (failed : Bool) (fed : List (List ℕ)) : Type 0 where
  pub working : failed ≡ false
  pub pat_fed : HasPat zero fed
  pub entries : HavePmts pids fed
