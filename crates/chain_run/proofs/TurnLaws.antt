-- A turn, from what its calls ensure.
use Rattle.std.proofs.Common.{◌≡◌, ◌⊎◌, ℕ, suc, ◌+◌, ◌^◌, ◌<◌, ◌≤◌, true, List, [], ◌∷◌, ◌++◌, length, None, refl, sym, ◌∙◌, subst, ap, append_assoc}
use Rattle.std.specs.Prelude.{slice_index_or, is_some}
use Rattle.ts_packet.specs.declared.cell.Cell.{Cell}
use Rattle.chain_core.specs.declared.news.News.{News}
use Rattle.chain_core.specs.Numbers.{MayVisit}
use Rattle.chain_core.specs.Machine.{ChainState, Visit, visit_of, visited}
use Rattle.chain_core.specs.CoreNumbers.{CoreNumbers, StandsFor, progress_of_core}
use Rattle.stage_run.specs.Seeing.{Seeing}
use Rattle.stage_run.specs.declared.stage_part.StagePart.{StagePart}
use Rattle.stage_run.specs.declared.work.Work.{Work}
use Rattle.stage_run.specs.PartStands.{PartStands, MayWorkOnSome}
use Rattle.chain_run.specs.Runs.{RunStart, nothing_told}
use Rattle.chain_run.specs.SerialRuns.{IsIdle, remaining_work}
use Rattle.chain_run.specs.Working.{IsRunning, IsRunningSomehow, RanOn, StageWorks, Looks}
use Rattle.chain_run.specs.Laws.{MachineLaws}
use Rattle.chain_run.proofs.TurnWorks.{Looked, look, work-written, work-given, work-taken, work-stands, work-may, turned}
use Rattle.chain_run.proofs.TurnMoves.{moves, rests, idle}

-- a stage that goes on has looked, and so it may work and report what it has done
module _ {S K P : Type 0} (see : Seeing S K P) (laws : MachineLaws)
    (core core1 : CoreNumbers) (parts : List (StagePart S K P)) (cells : List Cell) (k : ℕ) (news : News)
    (goes : IsRunningSomehow see core parts cells) (is_stage : k ≤ suc core.plan.plugins) (open_ : (progress_of_core core k).ended ≡ None)
    (looks : Looks core core1 k news) where
  abbrev Looked_ : RunStart S K → Type 0
  Looked_ begun = Looked see laws begun core1 parts cells k news

  both-of : (begun : RunStart S K) (runs : IsRunning see begun core parts cells) → (looked : Looked_ begun) × (looked.visits ≡ visit_of k [] nothing_told ∷ runs.runs.visits)
  both-of begun runs =
      look see laws begun core core1 parts cells runs k news is_stage open_ looks.plan_same looks.visited_is looks.news_is

  abbrev looked-of : (begun : RunStart S K) → IsRunning see begun core parts cells → Looked_ begun
  looked-of begun runs = (both-of begun runs).0

  somehow : Looked_ goes.0
  somehow = looked-of goes.0 goes.1

  pub turn-written : news.written ≤ (progress_of_core core1 k).given
  turn-written = work-written see laws goes.0 core1 parts cells k news somehow

  pub turn-given : (progress_of_core core1 k).given ≤ news.taken
  turn-given = work-given see laws goes.0 core1 parts cells k news somehow

  pub turn-taken : news.taken ≤ 2 ^ 60
  turn-taken = work-taken see laws goes.0 core1 parts cells k news somehow

  pub turn-stands : (d : StagePart S K P) → MayWorkOnSome (PartStands see (slice_index_or parts k d)) (progress_of_core core1 k).given news.written
  turn-stands = work-stands see laws goes.0 core1 parts cells k news somehow

  module _ (core1' : CoreNumbers) (same : core1' ≡ core1) (parts_new : List (StagePart S K P)) (cells_new : List Cell) (work : Work)
      (works : StageWorks see parts parts_new cells cells_new k (progress_of_core core1 k).given news work) where
    pub turn-may : MayVisit core1'.plan (progress_of_core core1') core1'.told k work.done work.word
    turn-may =
        subst (λ (c : CoreNumbers). MayVisit c.plan (progress_of_core c) c.told k work.done work.word) (sym same)
        (work-may see laws goes.0 core1 parts cells k news somehow parts_new cells_new work works)

    module _ (core2 : CoreNumbers) (plan2 : core2.plan ≡ core1'.plan)
        (second : (state : ChainState) (gave : List Cell) → length gave ≡ work.done → StandsFor core1' state → StandsFor core2 (visited core1'.plan state (visit_of k gave work.word))) where
      told : (state : ChainState) (gave : List Cell) → length gave ≡ work.done → StandsFor core1 state → StandsFor core2 (visited core1.plan state (visit_of k gave work.word))
      told =
          subst (λ (c : CoreNumbers). (state : ChainState) (gave : List Cell) → length gave ≡ work.done → StandsFor c state → StandsFor core2 (visited c.plan state (visit_of k gave work.word))) same second

      pub turn-goes : (begun : RunStart S K) (runs : IsRunning see begun core parts cells) → RanOn see begun runs.runs.visits core2 parts_new cells_new
      turn-goes begun runs =
          let then_ = turned see laws begun core1 parts cells k news (looked-of begun runs) parts_new cells_new work works core2 (plan2 ∙ ap (λ (c : CoreNumbers). c.plan) same) told in
          record {
            now = then_.now;
            more = then_.more ++ visit_of k [] nothing_told ∷ [];
            visits_are = then_.visits_are ∙ (ap (λ (l : List Visit). then_.more ++ l) (both-of begun runs).1 ∙ sym (append_assoc then_.more (visit_of k [] nothing_told ∷ []) runs.runs.visits));
          }

      pub turn-moves : (0 < work.done) ⊎ (is_some work.word.ended ≡ true) → remaining_work (progress_of_core core2) (core.plan.plugins + 2) < remaining_work (progress_of_core core) (core.plan.plugins + 2)
      turn-moves =
          moves see laws goes.0 core core1 core2 parts cells goes.1 k is_stage open_ news somehow parts_new cells_new work works looks.visited_is told

      pub turn-rests : work.done ≡ 0 → work.word.ended ≡ None → progress_of_core core2 ≡ progress_of_core core
      turn-rests =
          rests see laws goes.0 core core1 core2 parts cells goes.1 k is_stage open_ news somehow parts_new cells_new work works looks.visited_is told

      pub turn-idle : work.done ≡ 0 → work.word.ended ≡ None → IsIdle core.plan (progress_of_core core2) k
      turn-idle =
          idle see laws goes.0 core core1 core2 parts cells goes.1 k is_stage open_ news somehow parts_new cells_new work works looks.visited_is told

-- a chain on which nothing was done, and one that ran on twice
module _ {S K P : Type 0} (see : Seeing S K P) (begun : RunStart S K) where
  pub rests-there : (core : CoreNumbers) (parts : List (StagePart S K P)) (cells : List Cell) (goes : IsRunning see begun core parts cells) → RanOn see begun goes.runs.visits core parts cells
  rests-there core parts cells goes = record { now = goes; more = []; visits_are = refl }

  pub ran-twice : (visits : List Visit) (core core2 : CoreNumbers) (parts parts2 : List (StagePart S K P)) (cells cells2 : List Cell)
      (first : RanOn see begun visits core parts cells) → RanOn see begun first.now.runs.visits core2 parts2 cells2 → RanOn see begun visits core2 parts2 cells2
  ran-twice visits core core2 parts parts2 cells cells2 first second = record {
    now = second.now;
    more = second.more ++ first.more;
    visits_are = second.visits_are ∙ (ap (λ (l : List Visit). second.more ++ l) first.visits_are ∙ sym (append_assoc second.more first.more visits));
  }
