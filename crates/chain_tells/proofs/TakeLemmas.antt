-- A plugin is given a mark between two rounds, and its lines are taken away.
use Rattle.std.proofs.Common.{◌≡◌, ◌≢◌, ℕ, suc, ◌+◌, ◌<◌, ◌≤◌, List, length, ◌==◌, if◌then◌else◌, Bool, true, false, Option, Result, is_ok, refl, ap, sym, ◌∙◌, subst, arith}
use Rattle.std.specs.Prelude.{slice_index_or, slice_set}
use Rattle.std.specs.declared.alloc.AllocError.{AllocError}
use Rattle.std.proofs.lemmas.Bool.{eq-eqb, ne_eqb}
use Rattle.std.proofs.lemmas.List.{length-set}
use Rattle.chain_core.specs.declared.stage_end.StageEnd.{StageEnd}
use Rattle.ts_packet.specs.declared.cell.Cell.{Cell}
use Rattle.chain_core.specs.Numbers.{written_of}
use Rattle.chain_core.specs.Machine.{ChainState, progress_of_stages}
use Rattle.chain_core.specs.ChainRun.{state_after}
use Rattle.chain_core.specs.CoreNumbers.{CoreNumbers, progress_of_core}
use Rattle.chain_core.specs.declared.progress.Progress.{Progress}
use Rattle.chain_core.specs.declared.core_plan.CorePlan.{CorePlan}
use Rattle.chain_model.specs.PluginRule.{PluginRule}
use Rattle.chain_model.specs.StageLists.{rule_after}
use Rattle.plugin_trait.specs.PlacedLines.{placed_between}
use Rattle.plugin_trait.specs.declared.line.Line.{Line}
use Rattle.stage_run.specs.Seeing.{Seeing}
use Rattle.stage_run.specs.declared.stage_part.StagePart.{StagePart}
use Rattle.stage_run.specs.PartLists.{PartLists, marked_by, lines_taken}
use Rattle.stage_run.specs.PartStands.{PartStands, kind_of, rule_of, a_plugin}
use Rattle.stage_run.specs.Noting.{AllowsNote, Noted}
use Rattle.chain_run.specs.Laws.{MachineLaws}
use Rattle.chain_run.specs.OneStage.{IsPlugin}
use Rattle.chain_run.specs.Runs.{RunStart, told_to}
use Rattle.chain_run.specs.Working.{IsRunning}
use Rattle.chain_run.proofs.MarkLemmas.{valid-told, part_now, lists_now, ran-noted}
use Rattle.chain_tells.specs.Taking.{met_in, StillRuns, Marks, GivesLines}
use Rattle.chain_tells.proofs.MetLemmas.{written-is, met-enough}

-- positions by number, of which one is changed
abbrev pub with_one : (ℕ → ℕ) → ℕ → ℕ → ℕ → ℕ
with_one told j written i = if i == j then written else told i

with-own : (told : ℕ → ℕ) (j written : ℕ) → with_one told j written j ≡ written
with-own told j written = ap (λ (b : Bool). if b then written else told j) (eq-eqb j j refl)

with-other : (told : ℕ → ℕ) (j written i : ℕ) → i ≢ j → with_one told j written i ≡ told i
with-other told j written i apart = ap (λ (b : Bool). if b then written else told i) (ne_eqb i j apart)

-- a chain of which one plugin was given a mark, or its lines were taken away: it made the same visits, that plugin stands for
-- what was changed, and the others stand for what they did
pub record IsChanged {S K P : Type 0} (see : Seeing S K P) (begun : RunStart S K) (told : ℕ → ℕ) (core : CoreNumbers) (parts : List (StagePart S K P)) (cells : List Cell)
    (goes : IsRunning see begun core parts cells) (j : ℕ) (new : StagePart S K P) (change : PartLists → PartLists) : Type 0 where
  pub now : IsRunning see (told_to begun told) core (slice_set parts (suc j) new) cells
  pub visits_are : now.runs.visits ≡ goes.runs.visits
  pub own : now.runs.lists (suc j) ≡ change (goes.runs.lists (suc j))
  pub others : (i : ℕ) → i ≢ j → now.runs.lists (suc i) ≡ goes.runs.lists (suc i)

is-changed : {S K P : Type 0} (see : Seeing S K P) (begun : RunStart S K) (told : ℕ → ℕ) (core : CoreNumbers) (parts : List (StagePart S K P)) (cells : List Cell)
    (goes : IsRunning see begun core parts cells) (j : ℕ) (lt : j < begun.plan.plugins) (new : StagePart S K P)
    (change : PartLists → PartLists) (Allows : PartLists → Type 0) → Noted see (goes.runs.part (suc j)) new change Allows → Allows (goes.runs.lists (suc j))
    → (change (goes.runs.lists (suc j))).met ≡ (goes.runs.lists (suc j)).met → (change (goes.runs.lists (suc j))).given ≡ (goes.runs.lists (suc j)).given
    → (change (goes.runs.lists (suc j))).mark ≤ written_of begun.plan (progress_of_stages (state_after begun.plan goes.runs.visits))
    → (change (goes.runs.lists (suc j))).from ≡ told j → ((i : ℕ) → i ≢ j → told i ≡ begun.told i)
    → IsChanged see begun told core parts cells goes j new change
is-changed see begun told core parts cells goes j lt new change Allows noted allows met_same given_same low own others =
    let by = goes.runs.by in
    let fits = goes.fits in
    let visits = goes.runs.visits in
    let part = goes.runs.part in
    let lists = goes.runs.lists in
    record {
      now = record {
        fits = record { plan_is = fits.plan_is; run = valid-told see begun told fits.run; stages_are = length-set parts (suc j) new ∙ fits.stages_are; slots_are = fits.slots_are };
        runs = record {
          visits = visits;
          part = part_now see begun told parts visits part lists by.ran fits.stages_are j lt new change Allows noted allows met_same given_same low own others;
          lists = lists_now see begun told parts visits part lists by.ran fits.stages_are j lt new change Allows noted allows met_same given_same low own others;
          by = record {
            ran = ran-noted see begun told parts visits part lists by.ran fits.stages_are j lt new change Allows noted allows met_same given_same low own others;
            numbers = by.numbers;
            going = by.going;
            buffer = by.buffer;
          };
        };
      };
      visits_are = refl;
      own = ap (λ (b : Bool). if b then change (lists (suc j)) else lists (suc j)) (eq-eqb j j refl);
      others = λ i apart. ap (λ (b : Bool). if b then change (lists (suc j)) else lists (suc i)) (ne_eqb i j apart);
    }

module _ {S K P : Type 0} (see : Seeing S K P) (laws : MachineLaws) (begun : RunStart S K)
    (core : CoreNumbers) (parts : List (StagePart S K P)) (cells : List Cell) (goes : IsRunning see begun core parts cells)
    (j : ℕ) (lt : j + 2 < length parts) where
  abbrev state : ChainState
  state = state_after begun.plan goes.runs.visits

  pub is-plugin : j < begun.plan.plugins
  is-plugin = let a = goes.fits.stages_are in omega arith

  pub here : IsPlugin see begun (goes.runs.part (suc j)) j (goes.runs.lists (suc j)) (state.stages (suc j)).given (state.stages j).given
  here = (goes.runs.by.ran.stands (suc j) (let a = is-plugin in omega arith)).plugin j refl is-plugin

  pub part-is : (d : StagePart S K P) → slice_index_or parts (suc j) d ≡ goes.runs.part (suc j)
  part-is d = goes.runs.by.ran.parts_are (suc j) d (let a = is-plugin in omega arith)

  pub kind-is : (part : StagePart S K P) → part ≡ slice_index_or parts (suc j) part → kind_of part ≡ a_plugin
  kind-is part is = ap kind_of (is ∙ part-is part) ∙ here.kind

  module _ (written : ℕ) (same : written ≡ (progress_of_core core (suc core.plan.plugins)).given) where
    pub given-out : written ≡ length (state.stages (suc begun.plan.plugins)).given
    given-out =
        same
        ∙ (ap (λ (n : ℕ). (progress_of_core core (suc n)).given) (let e = goes.fits.plan_is in ap (λ (p : CorePlan). p.plugins) e)
        ∙ ap (λ (p : Progress). p.given) (goes.runs.by.numbers.progress (suc begun.plan.plugins)))

    written-low : written ≡ written_of begun.plan (progress_of_stages state)
    written-low = given-out ∙ sym (written-is laws begun.plan goes.fits.run.valid.users goes.runs.visits goes.runs.by.ran.run)

    pub low-enough : (goes.runs.lists (suc j)).mark ≤ written
    low-enough =
        let a : (goes.runs.lists (suc j)).mark ≤ written_of begun.plan (progress_of_stages state) = (goes.runs.by.ran.stands (suc j) (let a = is-plugin in omega arith)).mark in
        let b = written-low in omega arith

    pub met-it : written ≤ length (goes.runs.lists (suc j)).met
    met-it =
        let a : length (goes.runs.lists (suc j)).met ≡ length (met_in state j) = ap (λ (l : List Cell). length l) here.met in
        let b : written ≤ length (met_in state j) = met-enough laws begun.plan goes.fits.run.valid.users goes.runs.visits goes.runs.by.ran.run written j is-plugin (let c = given-out in omega arith) in
        omega arith

    -- the mark may be given
    pub allows-note : (part : StagePart S K P) → part ≡ slice_index_or parts (suc j) part → AllowsNote (PartStands see part) written
    allows-note part is = record {
      lists = goes.runs.lists (suc j);
      told = (state.stages (suc j)).ended;
      holds = subst (λ (p : StagePart S K P). PartStands see p (goes.runs.lists (suc j)) (state.stages (suc j)).ended) (sym (is ∙ part-is part)) (goes.runs.by.ran.stands (suc j) (let a = is-plugin in omega arith)).stands_for;
      not_below = low-enough;
      met = met-it;
    }

    module _ (old new : StagePart S K P) (is : old ≡ slice_index_or parts (suc j) old) (answer : Result Unit AllocError)
        (noted : Noted see old new (λ lists. marked_by lists written answer) (λ lists. (lists.mark ≤ written) × (written ≤ length lists.met))) where
      marked-low : (ok : Bool) → (if ok then written else (goes.runs.lists (suc j)).mark) ≤ written_of begun.plan (progress_of_stages state)
      marked-low true = let a = written-low in omega arith
      marked-low false = let a = written-low in let b = low-enough in omega arith

      -- the chain runs on with the mark, or as it did
      pub note-runs : IsChanged see begun begun.told core parts cells goes j new (λ lists. marked_by lists written answer)
      note-runs =
          is-changed see begun begun.told core parts cells goes j is-plugin new (λ lists. marked_by lists written answer) (λ lists. (lists.mark ≤ written) × (written ≤ length lists.met))
          (subst (λ (p : StagePart S K P). Noted see p new (λ lists. marked_by lists written answer) (λ lists. (lists.mark ≤ written) × (written ≤ length lists.met))) (is ∙ part-is old) noted)
          (low-enough, met-it) refl refl (marked-low (is_ok answer)) here.since (λ i apart. refl)

  -- lines are taken away
  module _ (old new : StagePart S K P) (is : old ≡ slice_index_or parts (suc j) old) (noted : Noted see old new lines_taken (λ lists. Unit {0})) where
    pub take-runs : IsChanged see begun (with_one begun.told j (goes.runs.lists (suc j)).mark) core parts cells goes j new lines_taken
    take-runs =
        is-changed see begun (with_one begun.told j (goes.runs.lists (suc j)).mark) core parts cells goes j is-plugin new lines_taken (λ lists. Unit {0})
        (subst (λ (p : StagePart S K P). Noted see p new lines_taken (λ lists. Unit {0})) (is ∙ part-is old) noted)
        tt refl refl (goes.runs.by.ran.stands (suc j) (let a = is-plugin in omega arith)).mark
        (sym (with-own begun.told j (goes.runs.lists (suc j)).mark)) (λ i apart. with-other begun.told j (goes.runs.lists (suc j)).mark i apart)

    pub lines-are : (lines : List Line)
        → ((lists : PartLists) (told : Option StageEnd) → PartStands see old lists told → lines ≡ placed_between (rule_of see old) lists.met lists.from lists.mark)
        → lines ≡ placed_between (rule_after begun.rules j) (met_in state j) (begun.told j) (goes.runs.lists (suc j)).mark
    lines-are lines taken =
        let lists : PartLists = goes.runs.lists (suc j) in
        taken lists (state.stages (suc j)).ended
        (subst (λ (p : StagePart S K P). PartStands see p lists (state.stages (suc j)).ended) (sym (is ∙ part-is old)) (goes.runs.by.ran.stands (suc j) (let a = is-plugin in omega arith)).stands_for)
        ∙ (ap (λ (r : PluginRule). placed_between r lists.met lists.from lists.mark) (ap (rule_of see) (is ∙ part-is old) ∙ here.rule_is)
        ∙ (ap (λ (l : List Cell). placed_between (rule_after begun.rules j) l lists.from lists.mark) here.met
        ∙ ap (λ (n : ℕ). placed_between (rule_after begun.rules j) (met_in state j) n lists.mark) here.since))

-- ---- what is said of it

module _ {S K P : Type 0} (see : Seeing S K P) (laws : MachineLaws) (begun : RunStart S K)
    (core : CoreNumbers) (parts : List (StagePart S K P)) (cells : List Cell) (goes : IsRunning see begun core parts cells)
    (j : ℕ) (lt : j + 2 < length parts) (written : ℕ)
    (old new : StagePart S K P) (is : old ≡ slice_index_or parts (suc j) old) where
  module _ (same : written ≡ (progress_of_core core (suc core.plan.plugins)).given) (answer : Result Unit AllocError)
      (noted : Noted see old new (λ lists. marked_by lists written answer) (λ lists. (lists.mark ≤ written) × (written ≤ length lists.met))) where
    abbrev first : IsChanged see begun begun.told core parts cells goes j new (λ lists. marked_by lists written answer)
    first = note-runs see laws begun core parts cells goes j lt written same old new is answer noted

    -- with the mark, or without it where memory ran out
    abbrev pub note-still : StillRuns see begun goes.runs.visits begun.told core (slice_set parts (suc j) new) cells
    note-still = record { now = first.now; visits_are = first.visits_are }

    pub note-marks : is_ok answer ≡ true → Marks see begun goes.runs.visits goes.runs.lists j written core (slice_set parts (suc j) new) cells
    note-marks ok = record {
      runs = note-still;
      own = ap (λ (l : PartLists). l.mark) first.own ∙ ap (λ (b : Bool). if b then written else (goes.runs.lists (suc j)).mark) ok;
      others = λ i apart. ap (λ (l : PartLists). l.mark) (first.others i apart);
    }

  module _ (noted : Noted see old new lines_taken (λ lists. Unit {0})) (lines : List Line)
      (taken : (lists : PartLists) (told : Option StageEnd) → PartStands see old lists told → lines ≡ placed_between (rule_of see old) lists.met lists.from lists.mark)
      (marked : (goes.runs.lists (suc j)).mark ≡ written) where
    abbrev second : IsChanged see begun (with_one begun.told j (goes.runs.lists (suc j)).mark) core parts cells goes j new lines_taken
    second = take-runs see laws begun core parts cells goes j lt old new is noted

    pub gives-lines : GivesLines see begun goes.runs.visits goes.runs.lists j written lines core (slice_set parts (suc j) new) cells
    gives-lines = record {
      told = with_one begun.told j (goes.runs.lists (suc j)).mark;
      others = λ i apart. with-other begun.told j (goes.runs.lists (suc j)).mark i apart;
      own = with-own begun.told j (goes.runs.lists (suc j)).mark ∙ marked;
      runs = record { now = second.now; visits_are = second.visits_are };
      marks = λ i apart. ap (λ (l : PartLists). l.mark) (second.others i apart);
      lines_are = lines-are see laws begun core parts cells goes j lt old new is noted lines taken
          ∙ ap (λ (n : ℕ). placed_between (rule_after begun.rules j) (met_in (state_after begun.plan goes.runs.visits) j) (begun.told j) n) marked;
    }
