-- What was told of a run that was closed, with its last lines.
use Rattle.std.proofs.Common.{◌≡◌, inl, inr, ℕ, zero, suc, ◌+◌, ◌<◌, ◌≤◌, List, [], ◌∷◌, ◌++◌, length, map, take, Bool, true, false, refl, ap, sym, ◌∙◌, subst, arith, append-nil}
use Rattle.std.proofs.lemmas.List.{map-append, length-map, length-take, take-take}
use Rattle.ts_packet.specs.declared.cell.Cell.{Cell}
use Rattle.chain_model.specs.Apply.{StageList}
use Rattle.chain_model.specs.PluginRule.{PluginRule}
use Rattle.chain_model.specs.PureRun.{Chain}
use Rattle.chain_model.specs.Reports.{NamedRule, rules_of}
use Rattle.chain_model.specs.StageLists.{stage_list}
use Rattle.chain_core.specs.Stages.{stages_of}
use Rattle.chain_core.specs.declared.closed.Closed.{Closed}
use Rattle.chain_core.specs.declared.core_plan.CorePlan.{CorePlan}
use Rattle.chain_core.specs.Machine.{Visit}
use Rattle.plugin_trait.specs.declared.heard.Heard.{Heard}
use Rattle.stage_run.specs.Seeing.{Seeing, heard_rule}
use Rattle.stage_run.specs.declared.input_part.InputPart.{InputPart}
use Rattle.stage_run.specs.declared.output_part.OutputPart.{OutputPart}
use Rattle.stage_run.specs.declared.stuffing.Stuffing.{Stuffing}
use Rattle.chain_live.specs.LiveReports.{LiveLine, lines_to, lines_below, list_met}
use Rattle.chain_live.proofs.LineLaws.{only-met}
use Rattle.chain_rounds.specs.Told.{shown, told_merged}
use Rattle.chain_rounds.specs.declared.told_line.ToldLine.{ToldLine}
use Rattle.chain_rounds.proofs.ShownLemmas.{shown-prints}
use Rattle.chain_run.specs.Met.{AllMetFirst}
use Rattle.chain_run.specs.Runs.{began_with}
use Rattle.chain_run.specs.RunTold.{HeardSinceOne, RunTold, ClosesTold}
use Rattle.chain_tells.specs.Live.{lines_of_rows, HeardRows, LiveRun}
use Rattle.window_ring.specs.declared.stage_seat.StageSeat.{StageSeat}
use Rattle.chain_live_threads.specs.Ending.{HeardFrom, rules_by, TakesRest, TellsRest, SeatsHaveTold}

-- ---- plugins of which the lines below one position were taken away

module _ {S K P : Type 0} (see : Seeing S K P) (n : ℕ) (rules : List PluginRule) (input : StageList) (gave : ℕ → ℕ) (cut : ℕ) where
  pub of-one : (j : ℕ) (plugins : List (Heard P)) → AllMetFirst (HeardSinceOne see (λ _. n)) rules input gave cut j plugins
      → AllMetFirst (HeardFrom see.rule see.stands n) rules input gave cut j plugins
  of-one j [] met = tt
  of-one j (plugin ∷ plugins) met = (
    record { mark = met.0.mark; holds = met.0.holds.1; told = met.0.told; reach = met.0.reach; within = met.0.within },
    of-one (suc j) plugins met.1,
  )

  as-one : (j : ℕ) (plugins : List (Heard P)) → AllMetFirst (HeardFrom see.rule see.stands n) rules input gave cut j plugins
      → AllMetFirst (HeardSinceOne see (λ _. n)) rules input gave cut j plugins
  as-one j [] met = tt
  as-one j (plugin ∷ plugins) met = (
    record { mark = met.0.mark; holds = (0, met.0.holds); told = met.0.told; reach = met.0.reach; within = met.0.within },
    as-one (suc j) plugins met.1,
  )

-- as many plugins came back as there were
pub as-many : {S K P : Type 0} (see : Seeing S K P) (old made : List (Heard P)) → map (heard_rule see) made ≡ map (heard_rule see) old → length made ≡ length old
as-many see old made same =
    sym (length-map made (heard_rule see)) ∙ (ap (λ (l : List PluginRule). length l) same ∙ length-map old (heard_rule see))

-- how far the plugin after `n` others met its list
met-at : {P : Type 0} (stands : P → List Cell → ℕ → Type 0) (rules : List PluginRule) (input : StageList) (gave : ℕ → ℕ) (cut k : ℕ) (plugins : List P)
    → AllMetFirst stands rules input gave cut k plugins → (i n : ℕ) → n ≡ k + i → i < length plugins
    → (cut ≤ gave (suc n)) × (gave (suc n) ≤ length (stage_list rules input n).cells)
met-at stands rules input gave cut k [] met i n is lt = absurd (omega (arith, lt))
met-at stands rules input gave cut k (plugin ∷ plugins) met zero n is lt =
    let same : k ≡ n = omega (arith, is) in
    subst (λ (m : ℕ). (cut ≤ gave (suc m)) × (gave (suc m) ≤ length (stage_list rules input m).cells)) same (met.0.reach, met.0.within)
met-at stands rules input gave cut k (plugin ∷ plugins) met (suc i) n is lt =
    met-at stands rules input gave cut (suc k) plugins met.1 i n (omega (arith, is)) (omega (arith, lt))

module _ {S K P L : Type 0} (see : Seeing S K P) (from made_from : InputPart S) (stuffing : Stuffing) (met_none made : List (Heard P)) (to made_to : OutputPart K)
    (plan : CorePlan) (closed : Closed) (plugins : List NamedRule) (name_of : ℕ → List ℕ) (hears : L → L → List ToldLine → Type 0) (first was : L) (w : ℕ) (seats : List StageSeat)
    (t : SeatsHaveTold see (began_with see from stuffing met_none to plan) plugins name_of hears first was w seats) (visits : List Visit)
    (closes : ClosesTold see (λ _. w) visits from made_from stuffing met_none made to made_to plan closed) (within : w ≤ closed.cut)
    (right : map (shown name_of) (lines_of_rows t.rows) ≡ lines_below (record { input = closes.run.list; plugins = plugins; users = stages_of plan.users }) w) where
  abbrev chain : Chain
  chain = record { input = closes.run.list; plugins = plugins; users = stages_of plan.users }

  abbrev rules : List PluginRule
  rules = map (heard_rule see) met_none

  -- the run with its plugins as they were left
  abbrev run-with : (n : ℕ) (left : List (Heard P)) → rules_by see.rule left ≡ rules_by see.rule made
      → AllMetFirst (HeardFrom see.rule see.stands n) rules closes.run.list closes.run.gave closed.cut 0 left
      → RunTold see (λ _. n) from made_from stuffing met_none left to made_to plan closed
  run-with n left same met = record {
    list = closes.run.list;
    is_list = closes.run.is_list;
    closes = closes.run.closes;
    input = closes.run.input;
    output = closes.run.output;
    gave = closes.run.gave;
    gave_to = closes.run.gave_to;
    input_gave = closes.run.input_gave;
    met = as-one see n rules closes.run.list closes.run.gave closed.cut 0 left met;
    memory = closes.run.memory;
    rules = same ∙ closes.run.rules;
  }

  abbrev met_of : ℕ → List Cell
  met_of i = take (closes.run.gave (suc i)) (stage_list rules closes.run.list i).cells

  made-rules : rules_by see.rule made ≡ rules_of plugins
  made-rules = closes.run.rules ∙ t.rules

  many : length made ≡ length plugins
  many =
      sym (length-map made (λ (heard : Heard P). see.rule heard.plugin))
      ∙ (ap (λ (l : List PluginRule). length l) made-rules ∙ length-map plugins (λ (plugin : NamedRule). plugin.rule))

  far : (j : ℕ) → j < length plugins → (closed.cut ≤ closes.run.gave (suc j)) × (closes.run.gave (suc j) ≤ length (stage_list rules closes.run.list j).cells)
  far j lt = met-at (HeardSinceOne see (λ _. w)) rules closes.run.list closes.run.gave closed.cut 0 made closes.run.met j j (omega arith) (let m = many in omega (arith, m, lt))

  as-met : (m : ℕ) → m ≤ closed.cut → (j : ℕ) → j < length plugins → take m (list_met chain j) ≡ take m (met_of j)
  as-met m le j lt =
      let f = far j lt in
      ap (λ (r : List PluginRule). take m (stage_list r closes.run.list j).cells) (sym t.rules)
      ∙ sym (take-take m (closes.run.gave (suc j)) (stage_list rules closes.run.list j).cells (omega (arith, le, f.0)))

  -- with the last lines
  cut-lines : (left : List (Heard P)) (lines : List ToldLine) → TakesRest see.rule see.stands rules closes.run.list closes.run.gave w closed.cut 0 made left lines
      → map (shown name_of) (lines_of_rows t.rows ++ lines) ≡ lines_below chain closed.cut
  cut-lines left lines takes =
      map-append (shown name_of) (lines_of_rows t.rows) lines
      ∙ (ap (λ (l : List LiveLine). l ++ map (shown name_of) lines) (right ∙ only-met plugins (list_met chain) met_of w (as-met w within))
      ∙ (ap (λ (l : List ToldLine). lines_to met_of plugins w ++ map (shown name_of) l) (takes.lines_are ∙ ap (told_merged met_of w closed.cut 0) made-rules)
      ∙ (shown-prints name_of met_of plugins w closed.cut within
      (λ j lt. let f = far j lt in let n = length-take (closes.run.gave (suc j)) (stage_list rules closes.run.list j).cells in omega (arith, f.0, f.1, n)) t.names
      ∙ only-met plugins met_of (list_met chain) closed.cut (λ j lt. sym (as-met closed.cut (omega arith) j lt)))))

  pub live-ended : (all : Bool) (left : List (Heard P)) (now : L)
      → TellsRest see.rule see.stands rules closes.run.list closes.run.gave w closed.cut hears was now all made left
      → rules_by see.rule left ≡ rules_by see.rule made
      → LiveRun see plugins name_of hears first now all from made_from stuffing met_none left to made_to plan closed
  live-ended false left now tells same = record {
    w = w;
    run = run-with w left same tells.0;
    rows = t.rows;
    heard = subst (λ (l : L). HeardRows hears first l t.rows) (sym tells.1) t.heard;
    lines = right;
    within = within;
    whole = λ is. absurd cc;
  }
  live-ended true left now (lines, takes, inl none) same = record {
    w = closed.cut;
    run = run-with closed.cut left same takes.met;
    rows = t.rows;
    heard = subst (λ (l : L). HeardRows hears first l t.rows) (sym none.1) t.heard;
    lines = ap (map (shown name_of)) (sym (append-nil (lines_of_rows t.rows)) ∙ ap (λ (l : List ToldLine). lines_of_rows t.rows ++ l) (sym none.0)) ∙ cut-lines left lines takes;
    within = omega arith;
    whole = λ is. refl;
  }
  live-ended true left now (lines, takes, inr some) same = record {
    w = closed.cut;
    run = run-with closed.cut left same takes.met;
    rows = lines ∷ t.rows;
    heard = (was, t.heard, some.0, some.1);
    lines = cut-lines left lines takes;
    within = omega arith;
    whole = λ is. refl;
  }
