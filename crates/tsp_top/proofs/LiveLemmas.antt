-- A run whose lines were printed while it went: its plugins, and their names.
use Rattle.std.proofs.Common.{◌≡◌, ℕ, zero, suc, ◌-◌, List, [], ◌∷◌, map, drop, Bool, Option, Some, Result, Ok, Err, IfOk, OnErr, ap, ◌∙◌, arith}
use Rattle.std.specs.Prelude.{slice_get, unwrap_or}
use Rattle.std.specs.Option.{option_map}
use Rattle.std.specs.declared.alloc.AllocError.{AllocError}
use Rattle.ts_packet.specs.declared.cell.Cell.{Cell}
use Rattle.ts_outside.specs.Desk.{DeskView}
use Rattle.chain_args.specs.declared.plan_type.Plan.{Plan}
use Rattle.chain_core.specs.declared.closed.Closed.{Closed}
use Rattle.chain_core.specs.declared.core_plan.CorePlan.{CorePlan}
use Rattle.chain_model.specs.Apply.{StageList}
use Rattle.chain_model.specs.PluginRule.{PluginRule}
use Rattle.chain_model.specs.Reports.{rules_of}
use Rattle.chain_run.specs.Met.{AllMetFirst}
use Rattle.chain_run.specs.RunOf.{RunBy}
use Rattle.chain_rounds.specs.Round.{AreNames}
use Rattle.plugin_settings.specs.declared.plugin_item.PluginItem.{PluginItem}
use Rattle.plugin_settings.specs.Plugins.{name_of}
use Rattle.plugin_trait.specs.declared.heard.Heard.{Heard}
use Rattle.stage_run.specs.Seeing.{Seeing, heard_rule}
use Rattle.stage_run.specs.declared.input_part.InputPart.{InputPart}
use Rattle.stage_run.specs.declared.output_part.OutputPart.{OutputPart}
use Rattle.stage_run.specs.declared.stuffing.Stuffing.{Stuffing}
use Rattle.packet_forms.specs.declared.forms.Form.{Form}
use Rattle.search_source.specs.declared.gap.Gap.{Gap}
use Rattle.search_source.specs.declared.gap_counts.GapCounts.{GapCounts}
use Rattle.tsp_top.specs.InputRounds.{ToldGaps}
use Rattle.tsp_top.specs.LiveEnds.{EndsLive, PrintedTo, RanLive, plugin_stands}
use Rattle.tsp_top.specs.PlannedChain.{later_tables, named_rules, stuffing_of}
use Rattle.tsp_top.specs.Printing.{name_at}
use Rattle.tsp_top.specs.Ran.{EndsRun, chain_over}

-- ---- the names of plugins

get-here : (whole : List PluginItem) (item : PluginItem) (items : List PluginItem) (j : ℕ) → drop j whole ≡ item ∷ items → slice_get whole j ≡ Some item
get-here [] item items zero e = absurd cc
get-here [] item items (suc j) e = absurd cc
get-here (x ∷ xs) item items zero e = let same : x ≡ item = cc in ap Some same
get-here (x ∷ xs) item items (suc j) e = get-here xs item items j e

drop-next : (whole : List PluginItem) (item : PluginItem) (items : List PluginItem) (j : ℕ) → drop j whole ≡ item ∷ items → drop (suc j) whole ≡ items
drop-next [] item items zero e = absurd cc
drop-next [] item items (suc j) e = absurd cc
drop-next (x ∷ xs) item items zero e = let same : xs ≡ items = cc in same
drop-next (x ∷ xs) item items (suc j) e = drop-next xs item items j e

name-here : (whole : List PluginItem) (item : PluginItem) (items : List PluginItem) (j : ℕ) → drop j whole ≡ item ∷ items → name_at whole (suc j) ≡ name_of item.conf
name-here whole item items j e =
    let at : suc j - 1 ≡ j = omega arith in
    ap (λ (i : ℕ). unwrap_or (option_map (λ (it : PluginItem). name_of it.conf) (slice_get whole i)) []) at
    ∙ ap (λ (o : Option PluginItem). unwrap_or (option_map (λ (it : PluginItem). name_of it.conf) o) []) (get-here whole item items j e)

-- plugins have the names that are found by their numbers
pub names-are : (whole items : List PluginItem) (tables : List (List (List ℕ))) (j : ℕ) → drop j whole ≡ items → AreNames (name_at whole) j (named_rules items tables)
names-are whole [] tables j e = tt
names-are whole (item ∷ items) tables j e =
    (name-here whole item items j e, names-are whole items (later_tables tables) (suc j) (drop-next whole item items j e))

-- ---- what plugins stand for

weaker-met : {P : Type 0} (one other : P → List Cell → ℕ → Type 0) → ((p : P) (h : List Cell) (m : ℕ) → one p h m → other p h m)
    → (rules : List PluginRule) (input : StageList) (gave : ℕ → ℕ) (cut j : ℕ) (plugins : List P)
    → AllMetFirst one rules input gave cut j plugins → AllMetFirst other rules input gave cut j plugins
weaker-met one other f rules input gave cut j [] met = tt
weaker-met one other f rules input gave cut j (plugin ∷ plugins) met = (
  record { mark = met.0.mark; holds = f plugin _ met.0.mark met.0.holds; told = met.0.told; reach = met.0.reach; within = met.0.within },
  weaker-met one other f rules input gave cut (suc j) plugins met.1,
)

-- a run that was closed, of which this was printed: it says no less of less of its plugins
pub ran-live : {S K P : Type 0} (see : Seeing S K P) (one : Heard P → List Cell → ℕ → Type 0) → ((p : Heard P) (h : List Cell) (m : ℕ) → one p h m → plugin_stands see.stands p h m)
    → (plan : Plan) (tables : List (List (List ℕ))) (stuffing : Stuffing) (numbers : CorePlan)
    (from made_from : InputPart S) (plugins made : List (Heard P)) (to made_to : OutputPart K) (old new : DeskView) (failed whole : Bool) (counts : GapCounts) (closed : Closed)
    → (run : RunBy see one from made_from stuffing plugins made to made_to numbers closed) (form : Form) (gaps : List Gap) (at : ℕ)
    → ToldGaps see.source (stuffing_of plan.general) from at form gaps
    → PrintedTo plan.general (chain_over plan tables run.list) closed.cut form gaps at old new failed whole counts
    → RanLive see plan tables stuffing numbers from made_from plugins made to made_to old new failed whole counts closed
ran-live see one f plan tables stuffing numbers from made_from plugins made to made_to old new failed whole counts closed run form gaps at told printed =
    record {
      run = record {
        list = run.list;
        is_list = run.is_list;
        closes = run.closes;
        input = run.input;
        output = run.output;
        gave = run.gave;
        gave_to = run.gave_to;
        input_gave = run.input_gave;
        met = weaker-met one (plugin_stands see.stands) f (map (heard_rule see) plugins) run.list run.gave closed.cut 0 made run.met;
        memory = run.memory;
        rules = run.rules;
      };
      form = form;
      gaps = gaps;
      at = at;
      told = told;
      printed = printed;
    }

-- ---- a run as every run

weaker-ok : {T E : Type 0} (r : Result T E) (P Q : T → Type 0) → ((x : T) → P x → Q x) → IfOk r P → IfOk r Q
weaker-ok (Ok x) P Q f h = f x h
weaker-ok (Err e) P Q f h = tt

pub on-err-of : {T E : Type 0} (r : Result T E) (P Q : Type 0) → (P → Q) → OnErr r P → OnErr r Q
on-err-of (Ok x) P Q f h = tt
on-err-of (Err e) P Q f h = f h

pub live-ends : {S K P : Type 0} (see : Seeing S K P) (plan : Plan) (tables : List (List (List ℕ))) (stuffing : Stuffing) (numbers : CorePlan)
    (from made_from : InputPart S) (plugins made : List (Heard P)) (to made_to : OutputPart K) (old new : DeskView) (failed whole : Bool) (counts : GapCounts) (closed : Result Closed AllocError)
    → map (heard_rule see) plugins ≡ rules_of (named_rules plan.plugins tables)
    → EndsLive see plan stuffing numbers from made_from plugins made to made_to old new failed whole counts closed
    → EndsRun see (plugin_stands see.stands) stuffing numbers from made_from plugins made to made_to closed
live-ends see plan tables stuffing numbers from made_from plugins made to made_to old new failed whole counts closed rules ends = record {
  run = weaker-ok closed
      (λ (c : Closed). RanLive see plan tables stuffing numbers from made_from plugins made to made_to old new failed whole counts c)
      (λ (c : Closed). RunBy see (plugin_stands see.stands) from made_from stuffing plugins made to made_to numbers c)
      (λ c ran. ran.run) (ends.run tables rules);
  never_began = ends.never_began;
}
