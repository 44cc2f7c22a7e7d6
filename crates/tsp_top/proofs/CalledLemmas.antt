-- A call whose chain ran, whoever served the stages.
use Rattle.std.proofs.Common.{◌≡◌, ℕ, ◌≤◌, Bool, List, length, map, Option, Result, IfOk, inl, ap, sym, ◌∙◌}
use Rattle.std.proofs.lemmas.List.{length-map}
use Rattle.std.specs.declared.alloc.AllocError.{AllocError}
use Rattle.ts_packet.specs.declared.cell.Cell.{Cell}
use Rattle.chain_args.specs.declared.plan_type.Plan.{Plan}
use Rattle.chain_core.specs.declared.closed.Closed.{Closed}
use Rattle.chain_core.specs.declared.core_plan.CorePlan.{CorePlan}
use Rattle.chain_model.specs.PluginRule.{PluginRule}
use Rattle.chain_model.specs.Reports.{rules_of}
use Rattle.plugin_settings.specs.Items.{preallocated_of_item}
use Rattle.stage_run.specs.declared.input_part.InputPart.{InputPart}
use Rattle.stage_run.specs.declared.output_part.OutputPart.{OutputPart}
use Rattle.stage_run.specs.declared.stuffing.Stuffing.{Stuffing}
use Rattle.plugin_trait.specs.declared.heard.Heard.{Heard}
use Rattle.stage_run.specs.Seeing.{Seeing, heard_rule}
use Rattle.ts_outside.specs.Source.{SourceView}
use Rattle.search_source.specs.declared.gap_counts.GapCounts.{GapCounts}
use Rattle.ts_outside.specs.Desk.{DeskView}
use Rattle.tsp_top.specs.PlannedChain.{named_rules}
use Rattle.tsp_top.specs.PlannedTables.{tables_asked}
use Rattle.tsp_top.specs.ByPlugin.{by_plugin}
use Rattle.tsp_top.specs.LiveEnds.{EndsLive, plugin_stands}
use Rattle.tsp_top.specs.Ran.{EndsRun, IsReady, OpensPlan, RanOpened}
use Rattle.tsp_top.specs.Reported.{ReachesCut}
use Rattle.tsp_top.specs.TspCall.{CallsPlan}
use Rattle.tsp_top.specs.declared.status.Status.{Status}
use Rattle.tsp_top.proofs.LiveLemmas.{live-ends}
use Rattle.tsp_top.proofs.RanTheorem.{ran-theorem}
use Rattle.tsp_top.proofs.RunLemmas.{ends-few, ends-reach, ends-rules}

-- a chain that is ready has as many plugins as its numbers say
pub ready-plugins : {P : Type 0} (rule : P → PluginRule) (stands : P → List Cell → ℕ → Type 0) (preallocated : P → Option ℕ)
    (plan : Plan) (tables : List (List (List ℕ))) (stuffing : Stuffing) (numbers : CorePlan) (plugins : List (Heard P))
    → IsReady rule stands preallocated plan tables stuffing numbers plugins → numbers.plugins ≡ length plugins
ready-plugins rule stands preallocated plan tables stuffing numbers plugins ready =
    ready.numbers_are.plugins
    ∙ sym (length-map plan.plugins (λ item. preallocated_of_item item numbers.buffer))
    ∙ ap (λ (l : List (Option ℕ)). length l) (sym ready.rooms)
    ∙ length-map plugins (by_plugin preallocated)

module _ {S K P : Type 0} (see : Seeing S K P) (stands : Heard P → List Cell → ℕ → Type 0) (inner : S → SourceView) (plan : Plan) (core : CorePlan) (old made : DeskView)
    (from made_from : InputPart S) (stuffing : Stuffing) (plugins back : List (Heard P)) (to made_to : OutputPart K)
    (closed : Result Closed AllocError)
    (opens : OpensPlan see inner plan core old made from stuffing plugins to)
    (ends : EndsRun see stands stuffing core from made_from plugins back to made_to closed) where
  -- the plugins that the run returns can be asked for their reports
  pub called-reach : IfOk closed (λ c. ReachesCut stands back c.cut 0)
  called-reach = ends-reach see stands stuffing core from made_from plugins back to made_to closed ends

  pub called-few : length back ≤ 62
  called-few = ends-few see stands stuffing core from made_from plugins back to made_to closed plan opens.0 ends opens.2.ready

  -- and what is reported of the run is what the call has to report
  pub called : (new : DeskView) (status : Status)
      → ((tables : List (List (List ℕ))) (s : Stuffing) (numbers : CorePlan) (f : InputPart S) (ps : List (Heard P)) (t : OutputPart K)
      → map (heard_rule see) back ≡ rules_of (named_rules plan.plugins tables)
      → EndsRun see stands s numbers f made_from ps back t made_to closed
      → RanOpened see stands inner plan tables s numbers made new f ps t status)
      → CallsPlan plan old new status
  called new status reported = inl (record {
    tables = opens.0;
    tables_are = opens.1;
    theorem = ran-theorem see stands inner plan opens.0 stuffing core (tables_asked old plan) made new from plugins to status
        opens.2.asked opens.2.input opens.2.output opens.2.ready
        (reported opens.0 stuffing core from plugins to
        (ends-rules see stands stuffing core from made_from plugins back to made_to closed (rules_of (named_rules plan.plugins opens.0)) ends opens.2.ready.rules) ends);
  })

-- the same of a run whose lines were printed while it went
module _ {S K P : Type 0} (see : Seeing S K P) (inner : S → SourceView) (plan : Plan) (core : CorePlan) (old made printed : DeskView)
    (from made_from : InputPart S) (stuffing : Stuffing) (plugins back : List (Heard P)) (to made_to : OutputPart K)
    (failed whole : Bool) (counts : GapCounts) (closed : Result Closed AllocError)
    (opens : OpensPlan see inner plan core old made from stuffing plugins to)
    (ends : EndsLive see plan stuffing core from made_from plugins back to made_to made printed failed whole counts closed) where
  abbrev live-run : EndsRun see (plugin_stands see.stands) stuffing core from made_from plugins back to made_to closed
  live-run = live-ends see plan opens.0 stuffing core from made_from plugins back to made_to made printed failed whole counts closed opens.2.ready.rules ends

  pub live-reach : IfOk closed (λ c. ReachesCut (plugin_stands see.stands) back c.cut 0)
  live-reach = called-reach see (plugin_stands see.stands) inner plan core old made from made_from stuffing plugins back to made_to closed opens live-run

  pub live-few : length back ≤ 62
  live-few = called-few see (plugin_stands see.stands) inner plan core old made from made_from stuffing plugins back to made_to closed opens live-run

  pub live-called : (new : DeskView) (status : Status)
      → ((tables : List (List (List ℕ))) (s : Stuffing) (numbers : CorePlan) (f : InputPart S) (ps : List (Heard P)) (t : OutputPart K) (opened : DeskView)
      → map (heard_rule see) ps ≡ rules_of (named_rules plan.plugins tables)
      → map (heard_rule see) back ≡ rules_of (named_rules plan.plugins tables)
      → EndsLive see plan s numbers f made_from ps back t made_to opened printed failed whole counts closed
      → RanOpened see (plugin_stands see.stands) inner plan tables s numbers opened new f ps t status)
      → CallsPlan plan old new status
  live-called new status reported = inl (record {
    tables = opens.0;
    tables_are = opens.1;
    theorem = ran-theorem see (plugin_stands see.stands) inner plan opens.0 stuffing core (tables_asked old plan) made new from plugins to status
        opens.2.asked opens.2.input opens.2.output opens.2.ready
        (reported opens.0 stuffing core from plugins to made opens.2.ready.rules
        (ends-rules see (plugin_stands see.stands) stuffing core from made_from plugins back to made_to closed (rules_of (named_rules plan.plugins opens.0)) live-run opens.2.ready.rules) ends);
  })
