-- When a flow stands for the packets that were met.
-- This project's own rule.
use Rattle.std.specs.Prelude.{◌≡◌, ℕ, Bool, false, List, Option, Some, None}
use Rattle.ts_demux.specs.DemuxState as demuxing
use Rattle.ts_demux.specs.DemuxState.{DemuxState}
use Rattle.ts_demux.specs.SectionsOfPid.{sections_of_pid}
use Rattle.section_flow.specs.Flow.{Edit, waiting_after}
use Rattle.section_flow.specs.FlowState.{PackingState, Holds}
use Rattle.section_flow.specs.declared.edit.SectionChange.{SectionChange}
use Rattle.section_flow.specs.declared.edit.SectionChange.TheVariants as changes
use Rattle.section_flow.specs.declared.flow.Flow.{Flow}

-- what becomes of a section by its change
abbrev pub outcome : List ℕ → SectionChange → Option (List ℕ)
outcome section changes.Stays = Some section
outcome section (changes.Becomes new) = Some new
outcome section changes.Goes = None

-- memory did not run out, all sections of the packets were taken, and what waits is what waits after them
pub record HasMet (demux : DemuxState) (packing : PackingState) (failed : Bool) (pid : ℕ) (edit : Edit) (met : List (List ℕ)) : Type 0 where
  pub working : failed ≡ false
  pub same_pid : packing.pid ≡ pid
  pub demuxed : demuxing.StandsFor demux pid met (sections_of_pid pid met)
  pub waits : Holds packing (waiting_after pid edit met)

-- a flow of this PID, under what becomes of its sections, stands for the packets that were met, of any PID
abbrev pub StandsFor : Flow → ℕ → Edit → List (List ℕ) → Type 0
StandsFor flow pid edit met = HasMet flow.demux flow.packing flow.failed pid edit met

-- whether memory ran out
abbrev pub has_failed : Flow → Bool
has_failed flow = flow.failed

-- whether the edit altered a section that the last packet completed
abbrev pub has_altered : Flow → Bool
has_altered flow = flow.altered

-- an edit at a packet makes of each section what becomes of it after the packets met with this one
abbrev pub SameEdit : (List ℕ → Option (List ℕ)) → (List ℕ → Option (List ℕ)) → Type 0
SameEdit now wanted = (section : List ℕ) → now section ≡ wanted section
