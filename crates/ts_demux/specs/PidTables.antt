-- The packets that what is kept of a PID stands for.
-- This project's own rule.
use Rattle.std.specs.Prelude.{ℕ, Bool, List}
use Rattle.ts_demux.specs.DemuxState as demuxing
use Rattle.ts_demux.specs.DemuxState.{DemuxState}
use Rattle.ts_demux.specs.AssemblyState as assembling
use Rattle.ts_demux.specs.AssemblyState.{AssemblyState}
use Rattle.ts_demux.specs.SectionsOfPid.{sections_of_pid}
use Rattle.ts_demux.specs.declared.pid_tables.PidTables.{PidTables}

-- the packets were processed, and of their sections those returned were assembled into tables
pub record Holds (demux : DemuxState) (assembly : AssemblyState) (pid : ℕ) (taken given : List (List ℕ)) : Type 0 where
  pub demuxed : demuxing.StandsFor demux pid taken given
  pub assembled : assembling.StandsFor assembly given

-- the packets were processed, and all their sections were assembled
abbrev pub StandsFor : PidTables → ℕ → List (List ℕ) → Type 0
StandsFor tables pid taken = Holds tables.demux tables.assembly pid taken (sections_of_pid pid taken)

-- whether a call ran out of memory
abbrev pub has_failed : PidTables → Bool
has_failed tables = tables.failed
