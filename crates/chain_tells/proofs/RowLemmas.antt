-- The lines of plugins one after another, as one row.
use Rattle.std.proofs.Common.{◌≡◌, ◌≢◌, ℕ, zero, suc, ◌+◌, ◌<◌, ◌≤◌, List, [], ◌∷◌, length, map, drop, refl, ap, sym, ◌∙◌, arith, inl, inr}
use Rattle.std.proofs.lemmas.Bool.{cases_eq}
use Rattle.ts_packet.specs.declared.cell.Cell.{Cell}
use Rattle.chain_model.specs.PluginRule.{PluginRule}
use Rattle.chain_model.specs.StageLists.{rule_after}
use Rattle.chain_core.specs.CoreNumbers.{CoreNumbers}
use Rattle.chain_core.specs.Machine.{Visit}
use Rattle.chain_core.specs.ChainRun.{state_after}
use Rattle.plugin_trait.specs.PlacedLines.{placed_between}
use Rattle.plugin_trait.specs.declared.line.Line.{Line}
use Rattle.stage_run.specs.Seeing.{Seeing}
use Rattle.stage_run.specs.declared.stage_part.StagePart.{StagePart}
use Rattle.chain_rounds.specs.Merged.{merged}
use Rattle.chain_rounds.specs.Told.{told_by, told_merged, place_of}
use Rattle.chain_rounds.specs.declared.told_line.ToldLine.{ToldLine}
use Rattle.chain_run.specs.Runs.{RunStart, told_to}
use Rattle.chain_run.specs.Working.{IsRunning}
use Rattle.chain_tells.specs.Taking.{met_in, StillRuns, Marks, GivesLines, TakesLines}
use Rattle.chain_tells.specs.Waiting.{told_rows}
use Rattle.chain_tells.specs.declared.line_row.LineRow.{LineRow}
use Rattle.chain_tells.proofs.NextLemmas.{past-rows}

drop-rule : (rules : List PluginRule) (j : ℕ) → j < length rules → drop j rules ≡ rule_after rules j ∷ drop (suc j) rules
drop-rule [] j lt = absurd (omega arith)
drop-rule (rule ∷ rules) zero lt = refl
drop-rule (rule ∷ rules) (suc j) lt = drop-rule rules j (omega arith)

drop-none : (rules : List PluginRule) (j : ℕ) → length rules ≤ j → drop j rules ≡ []
drop-none [] zero le = refl
drop-none [] (suc j) le = refl
drop-none (rule ∷ rules) zero le = absurd (omega arith)
drop-none (rule ∷ rules) (suc j) le = drop-none rules j (omega arith)

-- the chain as it is
abbrev pub still-here : {S K P : Type 0} (see : Seeing S K P) (begun : RunStart S K) (core : CoreNumbers) (parts : List (StagePart S K P)) (cells : List Cell) (goes : IsRunning see begun core parts cells)
    → StillRuns see begun goes.runs.visits begun.told core parts cells
still-here see begun core parts cells goes = record { now = goes; visits_are = refl }

module _ {S K P : Type 0} (see : Seeing S K P) (begun : RunStart S K) (core : CoreNumbers) (parts : List (StagePart S K P)) (cells : List Cell) (goes : IsRunning see begun core parts cells)
    (j written : ℕ) where
  -- where no plugin is left
  pub takes-none : (rows : List LineRow) → length rows + 2 ≡ length parts → length parts ≤ j + 2
      → TakesLines see begun goes.runs.visits goes.runs.lists j written (told_rows j (drop j rows)) core parts cells
  takes-none rows many over =
      let a = goes.fits.stages_are in
      record {
        told = begun.told;
        others = λ i lt. refl;
        own = λ i le lt. absurd (omega arith);
        runs = still-here see begun core parts cells goes;
        marks = λ i lt. refl;
        lines_are = λ from same. past-rows rows j (omega (arith, many)) ∙ sym (ap (told_merged (met_in (state_after begun.plan goes.runs.visits)) from written j)
            (drop-none begun.rules j (let b = goes.fits.run.rules_are in omega arith)));
      }

  -- after the plugin after `j` others was given its mark, those after it gave their lines
  module _ (core1 : CoreNumbers) (parts1 : List (StagePart S K P)) (cells1 : List Cell) (first : Marks see begun goes.runs.visits goes.runs.lists j written core1 parts1 cells1)
      (core2 : CoreNumbers) (parts2 : List (StagePart S K P)) (cells2 : List Cell) (others : List ToldLine)
      (rest : TakesLines see begun first.runs.now.runs.visits first.runs.now.runs.lists (suc j) written others core2 parts2 cells2) where
    -- so it may give its own
    pub marked : (rest.runs.now.runs.lists (suc j)).mark ≡ written
    marked = rest.marks j (omega arith) ∙ first.own

    module _ (core3 : CoreNumbers) (parts3 : List (StagePart S K P)) (cells3 : List Cell) (lines : List Line)
        (own : GivesLines see (told_to begun rest.told) rest.runs.now.runs.visits rest.runs.now.runs.lists j written lines core3 parts3 cells3) where
      pub takes-more : j + 2 < length parts
          → TakesLines see begun goes.runs.visits goes.runs.lists j written (merged place_of (map (told_by (suc j)) lines) others) core3 parts3 cells3
      takes-more more =
          let lt : j < begun.plan.plugins = let a = goes.fits.stages_are in omega arith in
          let visits : rest.runs.now.runs.visits ≡ goes.runs.visits = rest.runs.visits_are ∙ first.runs.visits_are in
          record {
            told = own.told;
            others = λ i lt. own.others i (λ e. absurd (omega arith)) ∙ rest.others i (omega arith);
            own = λ i le below. elim (cases_eq i j) [
              | inl same ↦ ap own.told same ∙ own.own
              | inr apart ↦ own.others i apart ∙ rest.own i (above i le apart) below
            ];
            runs = record { now = own.runs.now; visits_are = own.runs.visits_are ∙ visits };
            marks = λ i lt. own.marks i (λ e. absurd (omega arith)) ∙ (rest.marks i (omega arith) ∙ first.others i (λ e. absurd (omega arith)));
            lines_are = λ from same.
                let gave : lines ≡ placed_between (rule_after begun.rules j) (met_in (state_after begun.plan goes.runs.visits) j) from written =
                own.lines_are
                ∙ (ap (λ (l : List Visit). placed_between (rule_after begun.rules j) (met_in (state_after begun.plan l) j) (rest.told j) written) visits
                ∙ ap (λ (n : ℕ). placed_between (rule_after begun.rules j) (met_in (state_after begun.plan goes.runs.visits) j) n written)
                (rest.others j (omega arith) ∙ same j (omega arith) lt)) in
                let after : others ≡ told_merged (met_in (state_after begun.plan goes.runs.visits)) from written (suc j) (drop (suc j) begun.rules) =
                rest.lines_are from (λ i le below. same i (omega arith) below)
                ∙ ap (λ (l : List Visit). told_merged (met_in (state_after begun.plan l)) from written (suc j) (drop (suc j) begun.rules)) first.runs.visits_are in
                ap (λ (l : List Line). merged place_of (map (told_by (suc j)) l) others) gave
                ∙ (ap (λ (l : List ToldLine). merged place_of (map (told_by (suc j)) (placed_between (rule_after begun.rules j) (met_in (state_after begun.plan goes.runs.visits) j) from written)) l) after
                ∙ sym (ap (told_merged (met_in (state_after begun.plan goes.runs.visits)) from written j) (drop-rule begun.rules j (let b = goes.fits.run.rules_are in omega arith))));
          }
        where
          above : (i : ℕ) → j ≤ i → i ≢ j → suc j ≤ i
          above i le apart = elim (cases_eq i j) [
            | inl same ↦ absurd (apart same)
            | inr other ↦ omega (arith, other)
          ]
