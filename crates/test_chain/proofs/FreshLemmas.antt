-- Lemmas on new parts, and on parts that have worked once: they may work on.
use Rattle.std.proofs.Common.{◌≡◌, ℕ, ◌+◌, ◌≤◌, List, length, ap, subst, Option, None, refl, arith, length-append}
use Rattle.std.proofs.lemmas.List.{length-take-le}
use Rattle.ts_packet.specs.declared.cell.Cell.{Cell}
use Rattle.ts_outside.specs.Source.{SourceView, own_bytes}
use Rattle.ts_outside.specs.Sink.{SinkView}
use Rattle.chain_core.specs.declared.stage_end.StageEnd.{StageEnd}
use Rattle.stage_run.specs.declared.input_part.InputPart.{InputPart}
use Rattle.stage_run.specs.declared.input_part.InputPart.TheVariants as input
use Rattle.stage_run.specs.declared.output_part.OutputPart.{OutputPart}
use Rattle.stage_run.specs.declared.output_part.OutputPart.TheVariants as output
use Rattle.stage_run.specs.declared.work.Work.{Work}
use Rattle.stage_run.specs.PartLists.{PartLists, fresh_lists}
use Rattle.stage_run.specs.PartStands.{MayWork, MayWorkOnSome}
use Rattle.stage_run.specs.Parts.{IsSourceOf, IsSinkOf}
use Rattle.stage_run.specs.Works.{Works}

-- some source, and some sink
pub any-source : SourceView
any-source = record { left = None; faults = 0; origin = own_bytes }

pub any-sink : SinkView
any-sink = record { taken = None; name = None; faults = 0 }

-- what stands for no cells yet may work
module _ (stands : PartLists → Option StageEnd → Type 0) where
  pub fresh-works : (source : SourceView) (sink : SinkView) → stands (fresh_lists source sink 0) None → MayWorkOnSome stands 0 0
  fresh-works source sink holds = record {
    lists = fresh_lists source sink 0;
    may = record { goes_on = holds; given = refl; mark = omega arith };
  }

  pub fresh-input : {S : Type 0} (seen : S → SourceView) (part : InputPart S)
      → ((source : SourceView) (sink : SinkView) (mark : ℕ) → IsSourceOf seen part source → stands (fresh_lists source sink mark) None) → MayWorkOnSome stands 0 0
  fresh-input seen (input.Stream source) each = fresh-works (seen source) any-sink (each (seen source) any-sink 0 refl)
  fresh-input seen (input.Nulls count) each = fresh-works any-source any-sink (each any-source any-sink 0 tt)
  fresh-input seen (input.Generated generator count) each = fresh-works any-source any-sink (each any-source any-sink 0 tt)

  pub fresh-output : {K : Type 0} (seen : K → SinkView) (part : OutputPart K)
      → ((source : SourceView) (sink : SinkView) (mark : ℕ) → IsSinkOf seen part sink → stands (fresh_lists source sink mark) None) → MayWorkOnSome stands 0 0
  fresh-output seen (output.Stream sink) each = fresh-works any-source (seen sink) (each any-source (seen sink) 0 refl)
  fresh-output seen output.Discard each = fresh-works any-source any-sink (each any-source any-sink 0 tt)

  -- what has worked and has not ended may work after what was done
  pub works-on : (old : PartLists → Option StageEnd → Type 0) (Does : PartLists → Type 0) (at : ℕ) (before : MayWorkOnSome old at 0) (written : ℕ) (cells cells_new : List Cell) (work : Work)
      → written ≡ 0 → (MayWork old at written before.lists → Works stands Does before.lists written cells cells_new work)
      → work.word.ended ≡ None → work.done ≤ length cells → length cells_new ≡ length cells
      → MayWorkOnSome stands (at + work.done) 0
  works-on old Does at before written cells cells_new work none_written works goes_on within same =
      let may : MayWork old at written before.lists = record { goes_on = before.may.goes_on; given = before.may.given; mark = omega arith } in
      let worked : Works stands Does before.lists written cells cells_new work = works may in
      record {
        lists = worked.after;
        may = record {
          goes_on = subst (λ (told : Option StageEnd). stands worked.after told) goes_on worked.stands;
          given = omega (arith, before.may.given, simp length-append at (ap length worked.behind.given), length-take-le work.done cells_new (omega arith));
          mark = omega (arith, worked.behind.mark);
        };
      }
