-- A call whose tables were read, from the desk before that.
use Rattle.std.proofs.Common.{ℕ, List, length, Result, Ok, Err, MatchResult, ap, sym, ◌∙◌, subst, inl, inr, arith}
use Rattle.std.proofs.lemmas.List.{take_all}
use Rattle.chain_args.specs.declared.plan_type.Plan.{Plan}
use Rattle.chain_core.specs.declared.core_plan.CorePlan.{CorePlan}
use Rattle.stage_run.specs.declared.input_part.InputPart.{InputPart}
use Rattle.stage_run.specs.declared.output_part.OutputPart.{OutputPart}
use Rattle.stage_run.specs.declared.stuffing.Stuffing.{Stuffing}
use Rattle.plugin_trait.specs.declared.heard.Heard.{Heard}
use Rattle.stage_run.specs.Seeing.{Seeing}
use Rattle.ts_outside.specs.Source.{SourceView}
use Rattle.ts_outside.specs.Desk.{DeskView}
use Rattle.tsp_top.specs.PlannedTables.{ReadsTables, files_asked, table_files}
use Rattle.tsp_top.specs.Ran.{IsOpened, OpensPlan}
use Rattle.tsp_top.specs.StreamTheorem.{StreamTheorem}
use Rattle.tsp_top.specs.TspCall.{CallsPlan, IsOverBefore}
use Rattle.tsp_top.specs.declared.status.Status.{Status}

module _ (plan : Plan) (tables : List (List (List ℕ))) (old mid : DeskView) (reads : ReadsTables plan.plugins tables old mid) where
  -- its ends were opened
  pub opens-plan : {S K P : Type 0} (see : Seeing S K P) (inner : S → SourceView) (numbers : CorePlan) (made : DeskView) (from : InputPart S) (stuffing : Stuffing) (plugins : List (Heard P)) (to : OutputPart K)
      → IsOpened see inner plan tables numbers mid made from stuffing plugins to → OpensPlan see inner plan numbers old made from stuffing plugins to
  opens-plan see inner numbers made from stuffing plugins to opened =
      (tables, reads.are, subst (λ (d : DeskView). IsOpened see inner plan tables numbers d made from stuffing plugins to) reads.asked opened)

  -- it is over before its run
  pub over-plan : (new : DeskView) (status : Status) → IsOverBefore plan tables mid new status → CallsPlan plan old new status
  over-plan new status (inl theorem) = inl (record {
    tables = tables;
    tables_are = reads.are;
    theorem = subst (λ (d : DeskView). StreamTheorem plan tables d new status) reads.asked theorem;
  })
  over-plan new status (inr wants) =
      let names : List (List ℕ) = table_files plan.plugins in
      inr (inr (record {
        status_is = wants.0;
        count = length names;
        desk_is = wants.1 ∙ reads.asked ∙ ap (λ (l : List (List ℕ)). files_asked old l) (sym (take_all (length names) names (omega arith)));
      }))

-- what is said of an answer, said in other words
pub said-again : {X E : Type 0} {P P' : X → Type 0} {Q Q' : E → Type 0} (r : Result X E) → ((x : X) → P x → P' x) → ((e : E) → Q e → Q' e) → MatchResult r P Q → MatchResult r P' Q'
said-again (Ok x) f h said = f x said
said-again (Err e) f h said = h e said
