-- When a reader of sections stands for the packets that it was fed. This project's own rule.
use Rattle.std.specs.Prelude.{ℕ, List}
use Rattle.ts_demux.specs.DemuxState.{StandsFor}
use Rattle.ts_demux.specs.SectionsOfPid.{sections_of_pid}
use Rattle.monitor_tables.specs.declared.section_reader.SectionReader.{SectionReader}

-- the packets were fed, and all their sections were given
abbrev pub HasRead : SectionReader → ℕ → List (List ℕ) → Type 0
HasRead reader pid fed = StandsFor reader.demux pid fed (sections_of_pid pid fed)
