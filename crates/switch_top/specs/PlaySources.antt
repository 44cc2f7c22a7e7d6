-- The source of a play: a file's own, or that of the packets that are found in the file. This project's own rule.
use Rattle.std.specs.Prelude.{◌≡◌, ◌⊎◌, ℕ, ◌<◌, List, Bool, true, false, Option, IfSome}
use Rattle.std.specs.Option.{option_map}
use Rattle.ts_outside.specs.Told.{before}
use Rattle.ts_outside.specs.Count.{raised}
use Rattle.ts_outside.specs.Source.{SourceView, own_bytes}
use Rattle.packet_forms.specs.declared.forms.Form.{Form}
use Rattle.packet_forms.specs.declared.forms.Form.TheVariants.{Ts}
use Rattle.packet_forms.specs.FormView.{came}
use Rattle.packet_search.specs.Rule.{deciding_bytes}
use Rattle.search_source.specs.Coming.{found_in}
use Rattle.chain_model.specs.declared.cause.Cause.{Cause}
use Rattle.chain_model.specs.declared.cause.Cause.TheVariants as cause
use Rattle.chain_model.specs.declared.input_end.InputEnd.TheVariants.{End, ReadFault}
use Rattle.chain_model.specs.Stuffed.{no_stuffing}
use Rattle.chain_run.specs.SourceRead.{ReadsSource}
use Rattle.chain_plays.specs.Abandoned.{WasAbandoned}
use Rattle.chain_plays.specs.declared.played.PlayCut.{PlayCut}
use Rattle.chain_plays.specs.declared.played.PlayEnd.{PlayEnd}
use Rattle.chain_plays.specs.declared.played.PlayEnd.TheVariants.{Input}
use Rattle.switch_top.specs.declared.played_cut.PlayedCut.{PlayedCut}
use Rattle.switch_top.specs.PlayCuts.{end_of}
use Rattle.switch_top.specs.PlayLists.{left_out_of}

-- the source of a play of a file with this content, when it is opened
abbrev pub play_source : Bool → Option (List ℕ) → SourceView
play_source true content = record {
  left = option_map (λ file. (found_in Ts file).bytes) content;
  faults = 0;
  origin = record { unit = deciding_bytes Ts; bytes = content };
}
play_source false content = record { left = content; faults = 0; origin = own_bytes }

-- ---- how it is closed

-- the file's own source, of one that finds packets: it leaves out bytes of that, of which the first ones were read
pub record ClosesFound (outer inner : SourceView) : Type 0 where
  pub form : Form
  pub unit_is : outer.origin.unit ≡ deciding_bytes form
  pub behind : outer.origin.bytes ≡ before (came outer.origin.bytes inner.left) inner.left

-- the source of a play was closed as this one of its file
abbrev pub ClosesAs : SourceView → SourceView → Type 0
ClosesAs outer inner = ((outer ≡ inner) × (inner.origin ≡ own_bytes)) ⊎ (ClosesFound outer inner × (outer.faults ≡ inner.faults))

-- a source of a play that was not played was closed as this one of its file
abbrev pub LeavesAs : SourceView → SourceView → Type 0
LeavesAs outer inner = (ended : SourceView) × WasAbandoned outer ended × ClosesAs ended inner

-- all bytes of the file that are in no packet were counted, where the file is known; or the read of its last bytes, which were
-- still to be read, failed
abbrev pub EndsPlainly : SourceView → SourceView → PlayEnd → Type 0
EndsPlainly outer inner end =
    ((left_out : ℕ) × (end ≡ Input (End left_out)) × (outer.faults ≡ inner.faults)
    × IfSome outer.origin.bytes (λ file. left_out ≡ left_out_of file))
    ⊎ ((end ≡ Input ReadFault) × (inner.faults ≡ raised outer.faults))

-- the end of a play in whose file packets were found
abbrev pub EndsFound : SourceView → SourceView → PlayEnd → PlayEnd → Type 0
EndsFound outer inner (Input (End left)) end = EndsPlainly outer inner end
EndsFound outer inner other end = (end ≡ other) × (outer.faults ≡ inner.faults)

-- the play ended so in the words of the report, and its source was closed
pub record ClosesPlay (outer inner : SourceView) (cut : PlayCut) (played : PlayedCut) : Type 0 where
  pub count : played.count ≡ cut.count
  pub closes : ((outer ≡ inner) × (inner.origin ≡ own_bytes) × (end_of played.end ≡ cut.end))
      ⊎ (ClosesFound outer inner × EndsFound outer inner cut.end (end_of played.end))

-- ---- what was read of the file

-- some bytes were read of a file; at most one call failed where packets are at their places, and where they are found again
-- any bytes without packets may have been read
abbrev pub WasRead : Bool → SourceView → SourceView → Type 0
WasRead true old new = (read : List ℕ) × (old.left ≡ before read new.left)
WasRead false old new = WasAbandoned old new

-- what a play read of a file
abbrev pub ReadsFile : Bool → ℕ → SourceView → SourceView → ℕ → Cause → Type 0
ReadsFile true buffer old new count why = WasRead true old new × (why ≡ cause.Input ReadFault → 0 < new.faults)
ReadsFile false buffer old new count why = ReadsSource no_stuffing buffer old new count why
