-- A run of a chain, and what its plugins met.
use Rattle.std.proofs.Common.{◌≡◌, ℕ, suc, ◌≤◌, List, [], ◌∷◌, length, refl, arith, Result, Ok, Err, ap, sym, ◌∙◌, subst, map, OnErr, IfOk, is_err, Bool}
use Rattle.std.specs.declared.alloc.AllocError.{AllocError}
use Rattle.std.specs.Bool.{OnTrue}
use Rattle.ts_outside.specs.Desk.{DeskView}
use Rattle.chain_model.specs.PluginRule.{PluginRule}
use Rattle.chain_model.specs.declared.cause.Cause.{Cause}
use Rattle.chain_core.specs.declared.closed.Closed.{Closed}
use Rattle.chain_core.specs.declared.core_plan.CorePlan.{CorePlan}
use Rattle.stage_run.specs.declared.input_part.InputPart.{InputPart}
use Rattle.stage_run.specs.declared.output_part.OutputPart.{OutputPart}
use Rattle.stage_run.specs.declared.stuffing.Stuffing.{Stuffing}
use Rattle.plugin_trait.specs.declared.heard.Heard.{Heard}
use Rattle.stage_run.specs.Seeing.{Seeing, heard_rule}
use Rattle.chain_run.specs.Met.{AllMetTo}
use Rattle.ts_packet.specs.declared.cell.Cell.{Cell}
use Rattle.chain_run.specs.RunOf.{RunBy}
use Rattle.chain_run.proofs.RunUses.{met-to}
use Rattle.std.proofs.lemmas.List.{length-map}
use Rattle.plugin_settings.specs.declared.plugin_item.PluginItem.{PluginItem}
use Rattle.chain_args.specs.declared.general_conf.GeneralConf.{GeneralConf}
use Rattle.chain_args.specs.declared.plan_type.Plan.{Plan}
use Rattle.chain_model.specs.Reports.{rules_of}
use Rattle.tsp_top.specs.PlannedChain.{later_tables, named_rules}
use Rattle.tsp_top.specs.Ran.{EndsRun, IsReady}
use Rattle.tsp_top.specs.Reported.{ReachesCut, ReportsRun}
use Rattle.tsp_top.specs.declared.status.Status.{Status}

-- what is said of an answer that failed, where it did
pub on-true-is_err : {A B : Type 0} (r : Result A B) (P : Type 0) → OnErr r P → OnTrue (is_err r) P
on-true-is_err (Ok x) P h = tt
on-true-is_err (Err e) P h = h

-- what is said of an answer that is known
pub if-ok : {A B : Type 0} (r : Result A B) (x : A) (P : A → Type 0) → r ≡ Ok x → IfOk r P → P x
if-ok {A} {B} r x P e h = let M : Result A B → Type 0 = λ s. IfOk s P in subst M e h

pub on-err : {A B : Type 0} (r : Result A B) (x : B) (P : Type 0) → r ≡ Err x → OnErr r P → P
on-err {A} {B} r x P e h = let M : Result A B → Type 0 = λ s. OnErr s P in subst M e h

-- the same report, in other words
pub reports-run-same : (general : GeneralConf) (text said : List ℕ) (faulty known : Bool) (K : Type 0) (why : Cause) (f failed : Bool) (a old new : DeskView) (status : Status)
    → text ≡ said → faulty ≡ known → f ≡ failed → a ≡ old → ReportsRun general text faulty K why f a new status → ReportsRun general said known K why failed old new status
reports-run-same general text said faulty known K why f failed a old new status e1 e2 e3 e4 h =
    let A : List ℕ → Type 0 = λ t. ReportsRun general t faulty K why f a new status in
    let B : Bool → Type 0 = λ b. ReportsRun general said b K why f a new status in
    let C : Bool → Type 0 = λ b. ReportsRun general said known K why b a new status in
    let D : DeskView → Type 0 = λ d. ReportsRun general said known K why failed d new status in
    subst D e4 (subst C e3 (subst B e2 (subst A e1 h)))

-- the plugins of a closed run met the cells before its cut, as plugins of their own rules
pub run-met : {S K P : Type 0} (see : Seeing S K P) (stands : Heard P → List Cell → ℕ → Type 0) (from made_from : InputPart S) (stuffing : Stuffing) (plugins made : List (Heard P))
    (to made_to : OutputPart K) (core : CorePlan) (closed : Closed)
    → (run : RunBy see stands from made_from stuffing plugins made to made_to core closed) → AllMetTo stands (map (heard_rule see) made) run.list closed.cut 0 made
run-met see stands from made_from stuffing plugins made to made_to core closed run =
    let M : List PluginRule → Type 0 = λ rules. AllMetTo stands rules run.list closed.cut 0 made in
    subst M (sym run.rules) (met-to stands (map (heard_rule see) plugins) run.list run.gave closed.cut 0 made run.met)

-- so they reach it
pub run-reaches : {S K P : Type 0} (see : Seeing S K P) (stands : Heard P → List Cell → ℕ → Type 0) (from made_from : InputPart S) (stuffing : Stuffing) (plugins made : List (Heard P))
    (to made_to : OutputPart K) (core : CorePlan) (closed : Closed)
    → RunBy see stands from made_from stuffing plugins made to made_to core closed → ReachesCut stands made closed.cut 0
run-reaches see stands from made_from stuffing plugins made to made_to core closed run = record {
  rules = map (heard_rule see) made;
  input = run.list;
  met = run-met see stands from made_from stuffing plugins made to made_to core closed run;
}

-- the plugins that a run returns have the rules of the settings still
pub ends-rules : {S K P : Type 0} (see : Seeing S K P) (stands : Heard P → List Cell → ℕ → Type 0) (stuffing : Stuffing) (core : CorePlan) (from made_from : InputPart S) (plugins made : List (Heard P))
    (to made_to : OutputPart K) (closed : Result Closed AllocError) (rules : List PluginRule)
    → EndsRun see stands stuffing core from made_from plugins made to made_to closed → map (heard_rule see) plugins ≡ rules → map (heard_rule see) made ≡ rules
ends-rules see stands stuffing core from made_from plugins made to made_to (Ok closed) rules ends are = ends.run.rules ∙ are
ends-rules see stands stuffing core from made_from plugins made to made_to (Err e) rules ends are =
    ap (λ (l : List _). map (heard_rule see) l) ends.never_began.plugins_same ∙ are

-- and they reach its cut, if it was closed
pub ends-reach : {S K P : Type 0} (see : Seeing S K P) (stands : Heard P → List Cell → ℕ → Type 0) (stuffing : Stuffing) (core : CorePlan) (from made_from : InputPart S) (plugins made : List (Heard P))
    (to made_to : OutputPart K) (closed : Result Closed AllocError)
    → EndsRun see stands stuffing core from made_from plugins made to made_to closed → IfOk closed (λ closed. ReachesCut stands made closed.cut 0)
ends-reach see stands stuffing core from made_from plugins made to made_to (Ok closed) ends = run-reaches see stands from made_from stuffing plugins made to made_to core closed ends.run
ends-reach see stands stuffing core from made_from plugins made to made_to (Err e) ends = tt

-- a run gives as many plugins back as its plan has, at most 62
length-named_rules : (items : List PluginItem) (tables : List (List (List ℕ))) → length (rules_of (named_rules items tables)) ≡ length items
length-named_rules [] tables = refl
length-named_rules (item ∷ items) tables = ap suc (length-named_rules items (later_tables tables))

pub ends-few : {S K P : Type 0} (see : Seeing S K P) (stands : Heard P → List Cell → ℕ → Type 0) (stuffing : Stuffing) (core : CorePlan) (from made_from : InputPart S) (plugins made : List (Heard P))
    (to made_to : OutputPart K) (closed : Result Closed AllocError) (plan : Plan) (tables : List (List (List ℕ)))
    → EndsRun see stands stuffing core from made_from plugins made to made_to closed → IsReady see.rule see.stands see.preallocated plan tables stuffing core plugins → length made ≤ 62
ends-few see stands stuffing core from made_from plugins made to made_to closed plan tables ends ready =
    let rules = ends-rules see stands stuffing core from made_from plugins made to made_to closed (rules_of (named_rules plan.plugins tables)) ends ready.rules in
    let count : length made ≡ length plan.plugins =
    sym (length-map made (heard_rule see)) ∙ ap (λ (l : List PluginRule). length l) rules ∙ length-named_rules plan.plugins tables in
    let few : core.plugins ≤ 62 = ready.numbers_are.valid.plugins in
    let same : core.plugins ≡ length plan.plugins = ready.numbers_are.plugins in
    omega (arith, count, few, same)
