-- What a chain told so far stays right, grows, and is right at the end.
use Rattle.std.proofs.Common.{◌≡◌, ℕ, suc, ◌<◌, ◌≤◌, List, [], ◌++◌, length, map, take, refl, ap, sym, ◌∙◌, subst, arith}
use Rattle.std.proofs.lemmas.List.{map-append, length-map, take-take}
use Rattle.ts_packet.specs.declared.cell.Cell.{Cell}
use Rattle.chain_model.specs.PluginRule.{PluginRule}
use Rattle.chain_model.specs.Reports.{NamedRule, rules_of}
use Rattle.chain_core.specs.Stages.{stages_of}
use Rattle.chain_core.specs.declared.closed.Closed.{Closed}
use Rattle.chain_core.specs.declared.core_plan.CorePlan.{CorePlan}
use Rattle.chain_core.specs.declared.progress.Progress.{Progress}
use Rattle.chain_core.specs.CoreNumbers.{CoreNumbers, progress_of_core}
use Rattle.chain_core.specs.Machine.{ChainState, Visit}
use Rattle.chain_core.specs.ChainRun.{ChainRun, state_after, took}
use Rattle.chain_core.specs.Keeps.{KeptRun}
use Rattle.plugin_trait.specs.declared.heard.Heard.{Heard}
use Rattle.stage_run.specs.Seeing.{Seeing}
use Rattle.stage_run.specs.declared.input_part.InputPart.{InputPart}
use Rattle.stage_run.specs.declared.output_part.OutputPart.{OutputPart}
use Rattle.stage_run.specs.declared.stage_part.StagePart.{StagePart}
use Rattle.stage_run.specs.declared.stuffing.Stuffing.{Stuffing}
use Rattle.chain_live.specs.LiveReports.{LiveLine, lines_below, lines_to}
use Rattle.chain_live.proofs.LineLaws.{only-met}
use Rattle.chain_live_order.proofs.OrderLaws.{prints-same}
use Rattle.chain_rounds.specs.Round.{AreNames}
use Rattle.chain_rounds.specs.Told.{shown, told_merged}
use Rattle.chain_rounds.specs.declared.told_line.ToldLine.{ToldLine}
use Rattle.chain_rounds.proofs.ShownLemmas.{shown-prints}
use Rattle.chain_run.specs.Laws.{MachineLaws}
use Rattle.chain_run.specs.Runs.{RunStart, began_with, told_to}
use Rattle.chain_run.specs.RunTold.{ClosesTold}
use Rattle.chain_run.specs.Working.{IsRunning, RanOn}
use Rattle.chain_run.proofs.MarkLemmas.{told-otherwise}
use Rattle.chain_run.proofs.NumberLaws.{given-falls, given-taken}
use Rattle.chain_tells.specs.Taking.{met_in, StillRuns}
use Rattle.chain_tells.specs.Telling.{Tells}
use Rattle.chain_tells.proofs.MetLemmas.{met-enough, met-first, met-stays, given-stays}

module _ {S K P : Type 0} (see : Seeing S K P) (begun : RunStart S K) (plugins : List NamedRule) (name_of : ℕ → List ℕ) where
  pub tells-nothing : (core : CoreNumbers) (parts : List (StagePart S K P)) (cells : List Cell) → begun.rules ≡ rules_of plugins → AreNames name_of 0 plugins
      → IsRunning see (told_to begun (λ _. 0)) core parts cells → Tells see begun plugins name_of (λ _. 0) 0 [] core parts cells
  tells-nothing core parts cells rules names goes = record { rules = rules; names = names; goes = goes; given = omega arith; lines = refl }

  -- so many rules as plugins
  counts : begun.rules ≡ rules_of plugins → length begun.rules ≡ begun.plan.plugins → length plugins ≡ begun.plan.plugins
  counts rules are = sym (length-map plugins (λ (plugin : NamedRule). plugin.rule)) ∙ (sym (ap (λ (l : List PluginRule). length l) rules) ∙ are)

  module _ (laws : MachineLaws) (taken : ℕ → ℕ) (w : ℕ) (told : List ToldLine) (core : CoreNumbers) (parts : List (StagePart S K P)) (cells : List Cell)
      (tells : Tells see begun plugins name_of taken w told core parts cells) where
    abbrev visits : List Visit
    visits = tells.goes.runs.visits

    run : ChainRun begun.plan visits
    run = tells.goes.runs.by.ran.run

    many : length plugins ≡ begun.plan.plugins
    many = counts tells.rules tells.goes.fits.run.rules_are

    -- after more visits
    pub tells-still : (core_new : CoreNumbers) (parts_new : List (StagePart S K P)) (cells_new : List Cell) → RanOn see (told_to begun taken) visits core_new parts_new cells_new
        → Tells see begun plugins name_of taken w told core_new parts_new cells_new
    tells-still core_new parts_new cells_new on =
        let later : ChainRun begun.plan (on.more ++ visits) = subst (λ (l : List Visit). ChainRun begun.plan l) on.visits_are on.now.runs.by.ran.run in
        record {
          rules = tells.rules;
          names = tells.names;
          goes = on.now;
          given = subst (λ (l : List Visit). w ≤ length ((state_after begun.plan l).stages (suc begun.plan.plugins)).given) (sym on.visits_are)
              (given-stays laws begun.plan tells.goes.fits.run.valid.users on.more visits later w tells.given);
          lines = tells.lines
              ∙ (only-met plugins (met_in (state_after begun.plan visits)) (met_in (state_after begun.plan (on.more ++ visits))) w
              (λ j lt. met-stays laws begun.plan tells.goes.fits.run.valid.users on.more visits later w j (let a = many in omega arith) tells.given)
              ∙ ap (λ (l : List Visit). lines_to (met_in (state_after begun.plan l)) plugins w) (sym on.visits_are));
        }

    -- where no line was taken away
    pub tells-kept : (core_new : CoreNumbers) (parts_new : List (StagePart S K P)) (cells_new : List Cell) → StillRuns see (told_to begun taken) visits taken core_new parts_new cells_new
        → Tells see begun plugins name_of taken w told core_new parts_new cells_new
    tells-kept core_new parts_new cells_new still = record {
      rules = tells.rules;
      names = tells.names;
      goes = still.now;
      given = subst (λ (l : List Visit). w ≤ length ((state_after begun.plan l).stages (suc begun.plan.plugins)).given) (sym still.visits_are) tells.given;
      lines = tells.lines ∙ ap (λ (l : List Visit). lines_to (met_in (state_after begun.plan l)) plugins w) (sym still.visits_are);
    }

    -- after lines were taken away up to what the output has given
    pub tells-more : (written : ℕ) → written ≡ (progress_of_core core (suc begun.plan.plugins)).given
        → (lines : List ToldLine) → lines ≡ told_merged (met_in (state_after begun.plan visits)) w written 0 begun.rules
        → (taken_new : ℕ → ℕ) → ((i : ℕ) → i < begun.plan.plugins → taken_new i ≡ written)
        → (core_new : CoreNumbers) (parts_new : List (StagePart S K P)) (cells_new : List Cell) → StillRuns see (told_to begun taken) visits taken_new core_new parts_new cells_new
        → Tells see begun plugins name_of (λ _. written) written (told ++ lines) core_new parts_new cells_new
    tells-more written same lines lines_are taken_new each core_new parts_new cells_new still =
        let state : ChainState = state_after begun.plan visits in
        let is : written ≡ length (state.stages (suc begun.plan.plugins)).given = same ∙ ap (λ (p : Progress). p.given) (tells.goes.runs.by.numbers.progress (suc begun.plan.plugins)) in
        record {
          rules = tells.rules;
          names = tells.names;
          goes = told-otherwise see (told_to begun taken_new) (λ _. written) core_new parts_new cells_new still.now (λ j lt. sym (each j lt));
          given = subst (λ (l : List Visit). written ≤ length ((state_after begun.plan l).stages (suc begun.plan.plugins)).given) (sym still.visits_are) (omega arith);
          lines = map-append (shown name_of) told lines
              ∙ (ap (λ (l : List LiveLine). l ++ map (shown name_of) lines) tells.lines
              ∙ (ap (λ (l : List ToldLine). lines_to (met_in state) plugins w ++ map (shown name_of) l) (lines_are ∙ ap (told_merged (met_in state) w written 0) tells.rules)
              ∙ (shown-prints name_of (met_in state) plugins w written (let a = tells.given in omega arith)
              (λ j lt. met-enough laws begun.plan tells.goes.fits.run.valid.users visits run written j (let a = many in omega arith) (omega arith)) tells.names
              ∙ ap (λ (l : List Visit). lines_to (met_in (state_after begun.plan l)) plugins written) (sym still.visits_are))));
        }

-- at the end
module _ {S K P : Type 0} (see : Seeing S K P) (laws : MachineLaws) (from made_from : InputPart S) (stuffing : Stuffing) (met_none made : List (Heard P)) (to made_to : OutputPart K)
    (plan : CorePlan) (closed : Closed) (plugins : List NamedRule) (name_of : ℕ → List ℕ) (taken : ℕ → ℕ) (w : ℕ) (told : List ToldLine)
    (core : CoreNumbers) (parts : List (StagePart S K P)) (cells : List Cell)
    (tells : Tells see (began_with see from stuffing met_none to plan) plugins name_of taken w told core parts cells)
    (closes : ClosesTold see taken tells.goes.runs.visits from made_from stuffing met_none made to made_to plan closed) where
  abbrev ended : ChainState
  ended = state_after plan tells.goes.runs.visits

  pub within-cut : w ≤ closed.cut
  within-cut = let a = tells.given in let b = closes.gave in omega arith

  pub whole : w ≡ (progress_of_core core (suc plan.plugins)).given → w ≡ closed.cut
  whole is = is ∙ (ap (λ (p : Progress). p.given) (tells.goes.runs.by.numbers.progress (suc plan.plugins)) ∙ closes.gave)

  kept : KeptRun plan (rules_of plugins) closes.run.list tells.goes.runs.visits
  kept = subst (λ (rules : List PluginRule). KeptRun plan rules closes.run.list tells.goes.runs.visits) tells.rules closes.kept

  as-taken : (j : ℕ) → j < length plugins → take w (met_in ended j) ≡ take w (took ended (suc j))
  as-taken j lt =
      let users = tells.goes.fits.run.valid.users in
      let run : ChainRun plan tells.goes.runs.visits = tells.goes.runs.by.ran.run in
      let n : length plugins ≡ plan.plugins = sym (length-map plugins (λ (plugin : NamedRule). plugin.rule)) ∙ kept.plugins in
      let a : length (ended.stages (suc plan.plugins)).given ≤ length (ended.stages (suc j)).given = given-falls laws plan users tells.goes.runs.visits run (suc plan.plugins) (suc j) (omega arith) in
      let b : length (ended.stages (suc j)).given ≤ (ended.stages (suc j)).taken = given-taken laws plan users tells.goes.runs.visits run (suc j) in
      let c = tells.given in
      met-first laws plan users tells.goes.runs.visits run w j (omega arith) tells.given
      ∙ sym (take-take w (ended.stages (suc j)).taken (ended.stages j).given (omega arith))

  pub right : map (shown name_of) told ≡ lines_below (record { input = closes.run.list; plugins = plugins; users = stages_of plan.users }) w
  right =
      tells.lines
      ∙ (only-met plugins (met_in ended) (λ j. took ended (suc j)) w as-taken
      ∙ prints-same plan plugins closes.run.list (stages_of plan.users) tells.goes.runs.visits kept w tells.given)
