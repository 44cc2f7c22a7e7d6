-- A run in one thread, from what its calls ensure.
use Rattle.std.proofs.Common.{◌≡◌, ◌↔◌, ℕ, List, [], ◌∷◌, ◌++◌, length, false, Some, None, sym, subst}
use Rattle.ts_packet.specs.declared.cell.Cell.{Cell}
use Rattle.ts_outside.specs.Source.{SourceView}
use Rattle.ts_outside.specs.Sink.{SinkView}
use Rattle.chain_model.specs.Apply.{StageList}
use Rattle.chain_core.specs.declared.closed.Closed.{Closed}
use Rattle.chain_core.specs.declared.core_plan.CorePlan.{CorePlan}
use Rattle.chain_core.specs.Numbers.{StagesProgress}
use Rattle.chain_core.specs.Machine.{ChainState, progress_of_stages}
use Rattle.chain_core.specs.ChainRun.{state_after, AllEnded}
use Rattle.chain_core.specs.Close.{closed_of}
use Rattle.chain_core.specs.CoreNumbers.{CoreNumbers, IsValidPlan, StandsFor, progress_of_core}
use Rattle.plugin_trait.specs.declared.heard.Heard.{Heard}
use Rattle.stage_run.specs.Seeing.{Seeing, heard_stands}
use Rattle.stage_run.specs.declared.input_part.InputPart.{InputPart}
use Rattle.stage_run.specs.declared.output_part.OutputPart.{OutputPart}
use Rattle.stage_run.specs.declared.stage_part.StagePart.{StagePart}
use Rattle.stage_run.specs.declared.stuffing.Stuffing.{Stuffing}
use Rattle.stage_run.specs.PartLists.{fresh_lists}
use Rattle.stage_run.specs.PartStands.{PartStands, PartGives, kind_of, stuffing_in, source_kind, sink_kind, stream_kind, an_input, an_output}
use Rattle.stage_run.specs.InputStands.{stuffing_of}
use Rattle.stage_run.specs.Parts.{IsListOf, IsSourceOf, IsSinkOf}
use Rattle.chain_run.specs.Fresh.{AreFresh}
use Rattle.chain_run.specs.Parts.{AreMadeOf}
use Rattle.chain_run.specs.Runs.{RunStart, began_with}
use Rattle.chain_run.specs.NewRow.{IsNewRow}
use Rattle.chain_run.specs.Ran.{Ran, HasClosed}
use Rattle.chain_run.specs.Working.{IsRunning}
use Rattle.chain_run.proofs.StartLemmas.{new-row}
use Rattle.chain_run.proofs.ProgressLemmas.{as-progress}

module _ {S K P : Type 0} (see : Seeing S K P) where
  -- the stages in a row, of which nothing was done
  pub record Laid (from : InputPart S) (stuffing : Stuffing) (plugins : List (Heard P)) (to : OutputPart K) (plan : CorePlan) (parts : List (StagePart S K P)) : Type 0 where
    pub valid : IsValidPlan plan
    pub fresh : AreFresh (heard_stands see) plugins
    pub number : plan.plugins ≡ length plugins
    pub opens : (plugin : P) (history : List Cell) (mark : ℕ) → see.stands plugin history mark → (see.rule plugin).agrees [] ≡ false
    pub first : StagePart S K P
    pub out : StagePart S K P
    pub made : List (StagePart S K P)
    pub are : AreMadeOf see made plugins
    pub row : parts ≡ first ∷ (made ++ out ∷ [])
    pub in_kind : kind_of first ≡ an_input
    pub in_stream : stream_kind first ≡ source_kind from
    pub in_stuffing : stuffing_in first ≡ Some (stuffing_of stuffing)
    pub in_stands : (source : SourceView) (sink : SinkView) (mark : ℕ) → IsSourceOf see.source from source → PartStands see first (fresh_lists source sink mark) None
    pub in_gives : (source : SourceView) (sink : SinkView) (mark : ℕ) (input : StageList) → PartGives see first (fresh_lists source sink mark) input ↔ IsListOf see.source from (stuffing_of stuffing) input
    pub out_kind : kind_of out ≡ an_output
    pub out_stream : stream_kind out ≡ sink_kind to
    pub out_stands : (source : SourceView) (sink : SinkView) (mark : ℕ) → IsSinkOf see.sink to sink → PartStands see out (fresh_lists source sink mark) None

  pub laid-row : (from : InputPart S) (stuffing : Stuffing) (plugins : List (Heard P)) (to : OutputPart K) (plan : CorePlan) (parts : List (StagePart S K P))
      → Laid from stuffing plugins to plan parts → IsNewRow see (began_with see from stuffing plugins to plan) parts
  laid-row from stuffing plugins to plan parts laid =
      subst (λ (l : List (StagePart S K P)). IsNewRow see (began_with see from stuffing plugins to plan) l) (sym laid.row)
      (new-row see plan laid.valid from stuffing to plugins laid.fresh laid.number laid.opens laid.first laid.out laid.made laid.are
      laid.in_kind laid.in_stream laid.in_stuffing laid.in_stands laid.in_gives laid.out_kind laid.out_stream laid.out_stands)

  -- ---- a run in one thread is a run

  module _ (begun : RunStart S K) (core : CoreNumbers) (parts : List (StagePart S K P)) (cells : List Cell) (goes : IsRunning see begun core parts cells) where
    abbrev pub ran-of : Ran see begun parts
    ran-of = record {
      valid_run = goes.fits.run;
      stages_are = goes.fits.stages_are;
      visits = goes.runs.visits;
      part = goes.runs.part;
      lists = goes.runs.lists;
      by = goes.runs.by.ran;
    }

    abbrev state : ChainState
    state = state_after begun.plan goes.runs.visits

    -- and its close is the close of a run
    abbrev pub closed-of-run : (closed : Closed) → AllEnded core.plan (progress_of_core core) → ((state : ChainState) → StandsFor core state → closed ≡ closed_of core.plan (progress_of_stages state)) → HasClosed see begun parts closed
    closed-of-run closed over closes = record {
      ran = ran-of;
      over = subst (λ (p : CorePlan). AllEnded p (progress_of_stages state)) goes.fits.plan_is
          (subst (λ (m : StagesProgress). AllEnded core.plan m) (as-progress core state goes.runs.by.numbers) over);
      closed_is = subst (λ (p : CorePlan). closed ≡ closed_of p (progress_of_stages state)) goes.fits.plan_is (closes state goes.runs.by.numbers);
    }
