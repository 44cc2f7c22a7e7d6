-- What a turn does to the progress: less is left to do, or nothing has moved and the stage is idle.
use Rattle.std.proofs.Common.{◌≡◌, ◌≢◌, ◌⊎◌, ℕ, zero, suc, ◌+◌, ◌%◌, ◌^◌, ◌<◌, ◌≤◌, true, false, List, [], ◌∷◌, length, take, drop, Option, Some, None, refl, ap, sym, ◌∙◌, subst, arith, inl, inr, length-append}
use Rattle.std.specs.Prelude.{is_some}
use Rattle.std.proofs.lemmas.Bool.{cases_eq, cases_lt}
use Rattle.std.proofs.lemmas.List.{length-take, length-drop}
use Rattle.ts_packet.specs.declared.cell.Cell.{Cell}
use Rattle.ts_packet.specs.Cells.{Dropped}
use Rattle.chain_core.specs.declared.core_plan.CorePlan.{CorePlan}
use Rattle.chain_core.specs.declared.progress.Progress.{Progress}
use Rattle.chain_core.specs.declared.news.News.{News}
use Rattle.chain_core.specs.declared.stage_word.StageWord.{StageWord}
use Rattle.chain_core.specs.Numbers.{StagesProgress, takes_of, news_of}
use Rattle.chain_core.specs.Machine.{ChainState, StageState, progress_of_stage, visit_of, visited}
use Rattle.chain_core.specs.ChainRun.{state_after}
use Rattle.chain_core.specs.CoreNumbers.{CoreNumbers, StandsFor, progress_of_core}
use Rattle.chain_core.proofs.Stepping.{visited-same, visited-other}
use Rattle.stage_run.specs.Seeing.{Seeing}
use Rattle.stage_run.specs.declared.stage_part.StagePart.{StagePart}
use Rattle.stage_run.specs.declared.work.Work.{Work}
use Rattle.stage_run.specs.PartStands.{kind_of, an_input}
use Rattle.stage_run.specs.Telling.{may_follow, FollowsNews}
use Rattle.stage_run.specs.Works.{InputTells, FillsByKind}
use Rattle.chain_run.specs.Runs.{nothing_told, RunStart}
use Rattle.chain_run.specs.SerialRuns.{still_of, remaining_work, IsIdle}
use Rattle.chain_run.specs.Working.{IsRunning, StageWorks}
use Rattle.chain_run.specs.Laws.{MachineLaws}
use Rattle.chain_run.proofs.NumberLaws.{given-taken, taken-below}
use Rattle.chain_run.proofs.TurnLemmas.{not-following}
use Rattle.chain_run.proofs.KindLemmas.{input-did, fills-some}
use Rattle.chain_run.proofs.ProgressLemmas.{TakesAlone, as-progress, takes-alone, same-progress, takes-none, none-waits, still-same, still-falls, still-less}
use Rattle.chain_run.proofs.TurnWorks.{Looked, open-state, here, worked, given-le, taken-is, may-now}

no-agreement : (o : Option ℕ) (at : ℕ) → ((agreed : ℕ) → o ≡ Some agreed → (at < agreed) × (agreed ≤ at + 0)) → o ≡ None
no-agreement None at may = refl
no-agreement (Some n) at may = let a = may n refl in absurd (omega (arith, a.0, a.1))

module _ {S K P : Type 0} (see : Seeing S K P)
    (laws : MachineLaws)
    (begun : RunStart S K) (core core1 core2 : CoreNumbers) (parts : List (StagePart S K P)) (cells : List Cell) (goes : IsRunning see begun core parts cells) (k : ℕ) (is_stage : k ≤ suc core.plan.plugins) (open_ : (progress_of_core core k).ended ≡ None)
    (news : News) (looked : Looked see laws begun core1 parts cells k news)
    (parts_new : List (StagePart S K P)) (cells_new : List Cell) (work : Work) (works : StageWorks see parts parts_new cells cells_new k (progress_of_core core1 k).given news work)
    (first : (state : ChainState) (gave : List Cell) → length gave ≡ 0 → StandsFor core state → StandsFor core1 (visited core.plan state (visit_of k gave nothing_told)))
    (second : (state : ChainState) (gave : List Cell) → length gave ≡ work.done → StandsFor core1 state → StandsFor core2 (visited core1.plan state (visit_of k gave work.word))) where
  abbrev m0 : StagesProgress
  m0 = progress_of_core core

  abbrev m1 : StagesProgress
  m1 = progress_of_core core1

  abbrev m2 : StagesProgress
  m2 = progress_of_core core2

  abbrev now : ChainState
  now = state_after begun.plan looked.visits

  took0 : TakesAlone begun.plan m0 m1 k
  took0 =
      takes-alone begun.plan core core1 (state_after begun.plan goes.runs.visits) k goes.runs.by.numbers
      (subst (λ (p : CorePlan). StandsFor core1 (visited p (state_after begun.plan goes.runs.visits) (visit_of k [] nothing_told))) goes.fits.plan_is (first (state_after begun.plan goes.runs.visits) [] refl goes.runs.by.numbers))
      (open-state see laws begun core parts cells goes k is_stage open_)

  looks-same : (n : ℕ) → remaining_work m1 n ≡ remaining_work m0 n
  looks-same n =
      still-same m0 m1 n (λ j. elim (cases_eq j k) [
        | inl here ↦ subst (λ i. still_of (m1 i) ≡ still_of (m0 i)) (sym here) (ap still_of took0.here)
        | inr apart ↦ ap still_of (took0.others j apart)
      ])

  -- ---- something moved

  at-is : (m1 k).given ≡ length (now.stages k).given
  at-is = ap (λ (m : Progress). m.given) (looked.by.numbers.progress k)

  -- any cells, so many, lead to the same numbers
  fake : (n : ℕ) → (cells : List Cell) × (length cells ≡ n)
  fake zero = ([], refl)
  fake (suc n) = (Dropped ∷ (fake n).0, let a = (fake n).1 in omega arith)

  moved-stands : StandsFor core2 (visited core1.plan now (visit_of k (fake work.done).0 work.word))
  moved-stands = second now (fake work.done).0 (fake work.done).1 looked.by.numbers

  moved-other : (j : ℕ) → j ≢ k → m2 j ≡ m1 j
  moved-other j apart =
      moved-stands.progress j ∙ (ap progress_of_stage (visited-other core1.plan now (visit_of k (fake work.done).0 work.word) j apart) ∙ sym (looked.by.numbers.progress j))

  moved-given : (m2 k).given ≡ (m1 k).given + work.done
  moved-given =
      ap (λ (m : Progress). m.given) (moved-stands.progress k)
      ∙ (ap (λ (s : StageState). length s.given) (visited-same core1.plan now (visit_of k (fake work.done).0 work.word))
      ∙ (let a = (fake work.done).1 in let b = at-is in omega (arith, length-append (now.stages k).given (fake work.done).0)))

  moved-ended : (m2 k).ended ≡ work.word.ended
  moved-ended =
      ap (λ (m : Progress). m.ended) (moved-stands.progress k)
      ∙ ap (λ (s : StageState). s.ended) (visited-same core1.plan now (visit_of k (fake work.done).0 work.word))

  pub moves : (0 < work.done) ⊎ (is_some work.word.ended ≡ true) → remaining_work m2 (core.plan.plugins + 2) < remaining_work m0 (core.plan.plugins + 2)
  moves some =
      let less : still_of (m2 k) < still_of (m1 k) =
      still-less (m1 k) (m2 k) work.done (ap (λ (m : Progress). m.ended) (looked.by.numbers.progress k) ∙ looked.open_) moved-given
      (let a = given-le see laws begun core1 parts cells k news looked parts_new cells_new work works in
      let b = taken-is see laws begun core1 parts cells k news looked parts_new cells_new work works in
      let c = taken-below laws begun.plan looked.fits.run.valid.users looked.visits looked.by.ran.run k in let d = at-is in omega arith)
      (elim some [
        | inl done ↦ inl done
        | inr over ↦ inr (ap is_some moved-ended ∙ over)
      ]) in
      let falls = still-falls m1 m2 k (core.plan.plugins + 2) (omega arith) (λ j apart. ap still_of (moved-other j apart)) less in
      let same = looks-same (core.plan.plugins + 2) in
      omega arith

  -- ---- nothing moved

  module _ (none : work.done ≡ 0) (still_open : work.word.ended ≡ None) where
    abbrev did-here : StageWorks see parts parts_new cells cells_new k (length (now.stages k).given) news work
    did-here = here see laws begun core1 parts cells k news looked parts_new cells_new work works

    window-length : length (take did-here.len (drop (length (now.stages k).given % length cells) cells)) ≡ did-here.len
    window-length =
        let a = did-here.in_row in
        omega (arith, length-take did-here.len (drop (length (now.stages k).given % length cells) cells), length-drop (length (now.stages k).given % length cells) cells)

    empty-len : did-here.len ≡ 0
    empty-len = let a = fills-some did-here.new (length (take did-here.len (drop (length (now.stages k).given % length cells) cells))) work.done (did-here.worked.stage.goes_on still_open) none in let b = window-length in omega arith

    empty : (m1 k).taken ≤ (m1 k).given
    empty =
        let a = empty-len in let b = at-is in
        let c : news.taken ≡ (now.stages k).taken = taken-is see laws begun core1 parts cells k news looked parts_new cells_new work works in
        let d : (m1 k).taken ≡ (now.stages k).taken = ap (λ (m : Progress). m.taken) (looked.by.numbers.progress k) in
        elim (cases_lt (length (now.stages k).given) news.taken) [
          | inl more ↦ (let e = did-here.some more in absurd (omega arith))
          | inr fine ↦ omega arith
        ]

    held : (m0 k).given ≤ (m0 k).taken
    held =
        let a = given-taken laws begun.plan goes.fits.run.valid.users goes.runs.visits goes.runs.by.ran.run k in
        let b = goes.runs.by.numbers.progress k in
        let c : (m0 k).given ≡ length ((state_after begun.plan goes.runs.visits).stages k).given = ap (λ (m : Progress). m.given) b in
        let d : (m0 k).taken ≡ ((state_after begun.plan goes.runs.visits).stages k).taken = ap (λ (m : Progress). m.taken) b in
        omega arith

    first-same : m1 ≡ m0
    first-same = same-progress begun.plan m0 m1 k took0 (takes-none begun.plan m0 m1 k took0 held empty)

    silent : work.word ≡ nothing_told
    silent =
        let agreed : work.word.agreed ≡ None =
        no-agreement work.word.agreed (length (now.stages k).given) (λ agreed e. subst (λ n. (length (now.stages k).given < agreed) × (agreed ≤ length (now.stages k).given + n)) none (did-here.worked.stage.agreed agreed e)) in
        λ i. record { agreed = agreed i; ended = still_open i }

    took1 : TakesAlone begun.plan m1 m2 k
    took1 =
        takes-alone begun.plan core1 core2 now k looked.by.numbers
        (subst (λ (p : CorePlan). StandsFor core2 (visited p now (visit_of k [] nothing_told))) looked.fits.plan_is
        (subst (λ (word : StageWord). StandsFor core2 (visited core1.plan now (visit_of k [] word))) silent (second now [] (sym none) looked.by.numbers)))
        looked.open_

    pub rests : m2 ≡ m0
    rests =
        same-progress begun.plan m1 m2 k took1 (ap (λ (m : StagesProgress). takes_of begun.plan m k) first-same ∙ takes-none begun.plan m0 m1 k took0 held empty)
        ∙ first-same

    idle0 : IsIdle begun.plan m0 k
    idle0 = record {
      took_all = none-waits begun.plan m0 m1 k took0 held empty goes.fits.run.valid.most;
      gave_all = subst (λ (m : StagesProgress). (m k).taken ≤ (m k).given) first-same empty;
      not_following = not-following begun.plan m0 k (m0 k).given
          (subst (λ (m : StagesProgress). may_follow (news_of begun.plan m k) (m k).given ≡ false) first-same
          (subst (λ (m : StagesProgress). may_follow (news_of begun.plan m k) (m k).given ≡ false) (sym (as-progress core1 now looked.by.numbers))
          (subst (λ n. may_follow n (length (now.stages k).given) ≡ false) looked.told
          (subst (λ n. may_follow news n ≡ false) (let a = none in omega arith)
          (subst (λ t. FollowsNews news (length (now.stages k).given + work.done) t) still_open did-here.worked.stage.follows)))));
      input_below = below;
    }
      where
        below : k ≡ 0 → (m0 k).given < 2 ^ 60
        below e =
            let kind : kind_of (looked.part k) ≡ an_input = subst (λ i. kind_of (looked.part i) ≡ an_input) (sym e) ((looked.by.ran.stands 0 (omega arith)).input refl).kind in
            let worked-here = worked see laws begun core1 parts cells k news looked parts_new cells_new work works in
            let may = may-now see laws begun core1 parts cells k news looked parts_new cells_new work works in
            let w = worked-here.stage.works (looked.lists k) may in
            let did = input-did see (looked.part k) did-here.new (looked.lists k) news (take did-here.len (drop (length (now.stages k).given % length cells) cells)) did-here.window_new work w.after kind w.does in
            let tells : FillsByKind did-here.new (length (take did-here.len (drop (length (now.stages k).given % length cells) cells))) work.done × (length (looked.lists k).given < 2 ^ 60) =
            subst (λ t. InputTells news (length (looked.lists k).given) work.done (FillsByKind did-here.new (length (take did-here.len (drop (length (now.stages k).given % length cells) cells))) work.done) (w.after.read ≡ (looked.lists k).read) t) still_open did.tells in
            let a = tells.1 in let b : length (looked.lists k).given ≡ length (now.stages k).given = may.given in let c = at-is in
            let d : (m1 k).given ≡ (m0 k).given = ap (λ (m : StagesProgress). (m k).given) first-same in
            omega arith

    pub idle : IsIdle core.plan m2 k
    idle =
        subst (λ (p : CorePlan). IsIdle p m2 k) (sym goes.fits.plan_is) (subst (λ (m : StagesProgress). IsIdle begun.plan m k) (sym rests) idle0)
