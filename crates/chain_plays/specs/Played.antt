-- The result of a play. This project's own rule.
use Rattle.std.specs.Prelude.{◌≡◌, ℕ, List, [], Ok, Err, IfSome, Result}
use Rattle.std.specs.declared.alloc.AllocError.{AllocError}
use Rattle.ts_outside.specs.Source.{SourceView}
use Rattle.ts_outside.specs.Sink.{SinkView}
use Rattle.chain_model.specs.Stuffed.{no_stuffing}
use Rattle.chain_core.specs.declared.closed.Closed.{Closed}
use Rattle.chain_core.specs.declared.core_plan.CorePlan.{CorePlan}
use Rattle.chain_core.specs.CoreNumbers.{IsValidPlan}
use Rattle.plugin_trait.specs.declared.heard.Heard.{Heard}
use Rattle.stage_run.specs.Seeing.{Seeing}
use Rattle.stage_run.specs.declared.input_part.InputPart.{InputPart}
use Rattle.stage_run.specs.declared.input_part.InputPart.TheVariants.{Stream}
use Rattle.stage_run.specs.declared.output_part.OutputPart.{OutputPart}
use Rattle.chain_run.specs.RunOf.{RunOf, LeftOutput}
use Rattle.chain_run.specs.SourceRead.{ReadsSource}
use Rattle.chain_run.specs.declared.run_end.RunEnd.{RunEnd}
use Rattle.chain_plays.specs.declared.ahead.TheConstants.{NO_STUFFING}
use Rattle.chain_plays.specs.declared.played.PlayCut.{PlayCut}
use Rattle.chain_plays.specs.declared.played.PlayedOut.{PlayedOut}
use Rattle.chain_plays.specs.PlayList.{play_of, cause_of, EndsAs}

-- a play of a source between two outputs: so many packets were written, and that is why it ended
pub record PlayRan {S K : Type 0} (in_seen : S → SourceView) (out_seen : K → SinkView) (buffer : ℕ)
    (source made : S) (to made_to : OutputPart K) (cut : PlayCut) : Type 0 where
  -- the bytes of its file: those of the source where they are known, else some
  pub content : List ℕ
  pub told : IfSome (in_seen source).left (λ left. left ≡ content)
  pub ends : EndsAs (play_of content) cut.count cut.end
  pub output : LeftOutput out_seen to made_to (play_of content).cells cut.count (cause_of cut.end)
  pub reads : ReadsSource no_stuffing buffer (in_seen source) (in_seen made) cut.count (cause_of cut.end)

-- the same of what is returned; where there was no memory nothing was read or written
abbrev pub PlaysTo : {S K : Type 0} → (S → SourceView) → (K → SinkView) → ℕ → S → S → OutputPart K → OutputPart K
    → Result PlayCut AllocError → Type 0
PlaysTo in_seen out_seen buffer source made to made_to (Ok cut) = PlayRan in_seen out_seen buffer source made to made_to cut
PlaysTo in_seen out_seen buffer source made to made_to (Err fault) = (made ≡ source) × (made_to ≡ to)

abbrev pub HasPlayedOut : {S K : Type 0} → (S → SourceView) → (K → SinkView) → ℕ → S → OutputPart K → PlayedOut S K → Type 0
HasPlayedOut in_seen out_seen buffer source to out =
    PlaysTo in_seen out_seen buffer source out.source to out.output out.cut

-- the same cut, in the words of a play
pub record CutsPlay (closed : Closed) (cut : PlayCut) : Type 0 where
  pub count : cut.count ≡ closed.cut
  pub end : cause_of cut.end ≡ closed.cause

-- the run of a play: it was closed, or there was no memory for it
abbrev pub RunsTo : {S K P : Type 0} → Seeing S K P → CorePlan → S → InputPart S → List (Heard P) → OutputPart K → OutputPart K
    → Result Closed AllocError → Type 0
RunsTo see plan source made_from made to made_to (Ok closed) =
    RunOf see (Stream source) made_from NO_STUFFING [] made to made_to plan closed
RunsTo see plan source made_from made to made_to (Err fault) = (made_from ≡ Stream source) × (made_to ≡ to)

pub record EndsPlay {S K P : Type 0} (see : Seeing S K P) (plan : CorePlan) (source : S) (to : OutputPart K)
    (end : RunEnd S K P) : Type 0 where
  pub valid : IsValidPlan plan
  pub plugins : plan.plugins ≡ 0
  pub runs : RunsTo see plan source end.input end.plugins.items to end.output end.closed
