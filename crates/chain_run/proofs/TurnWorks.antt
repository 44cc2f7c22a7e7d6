-- A turn of a stage: it looks, works, and reports what it has done.
use Rattle.std.proofs.Common.{◌≡◌, ℕ, suc, ◌+◌, ◌%◌, ◌^◌, ◌≤◌, List, [], ◌∷◌, ◌++◌, length, take, drop, None, refl, ap, sym, ◌∙◌, subst, arith}
use Rattle.std.specs.Prelude.{slice_index_or, slice_set}
use Rattle.std.proofs.lemmas.List.{length-take, length-drop, length-set}
use Rattle.ts_packet.specs.declared.cell.Cell.{Cell}
use Rattle.chain_core.specs.declared.core_plan.CorePlan.{CorePlan}
use Rattle.chain_core.specs.declared.progress.Progress.{Progress}
use Rattle.chain_core.specs.declared.news.News.{News}
use Rattle.chain_core.specs.declared.stage_word.StageWord.{StageWord}
use Rattle.chain_core.specs.Numbers.{StagesProgress, limit_of, news_of, MayVisit}
use Rattle.chain_core.specs.Machine.{ChainState, Visit, progress_of_stages, visit_of, visited, Allowed, news_after}
use Rattle.chain_core.specs.ChainRun.{state_after}
use Rattle.chain_core.specs.CoreNumbers.{CoreNumbers, StandsFor, progress_of_core}
use Rattle.stage_run.specs.Seeing.{Seeing}
use Rattle.stage_run.specs.declared.stage_part.StagePart.{StagePart}
use Rattle.stage_run.specs.declared.work.Work.{Work}
use Rattle.stage_run.specs.PartLists.{PartLists}
use Rattle.stage_run.specs.PartStands.{PartStands, MayWork, MayWorkOnSome}
use Rattle.stage_run.specs.Works.{PartWork}
use Rattle.chain_run.specs.Runs.{nothing_told, RunStart}
use Rattle.chain_run.specs.SerialRuns.{NumbersFit, RunsBy}
use Rattle.chain_run.specs.Working.{IsRunning, RanOn, StageWorks}
use Rattle.chain_run.specs.Laws.{MachineLaws}
use Rattle.chain_run.proofs.NumberLaws.{after-visit, change, given-taken, taken-below}
use Rattle.chain_run.proofs.SlotLemmas.{length-over_row}
use Rattle.chain_run.proofs.StepLemmas.{set_at}
use Rattle.chain_run.proofs.QuietVisit.{quiet-visit}
use Rattle.chain_run.proofs.WorkVisit.{may, written-below, given-below, may-visit, worked-visit}
use Rattle.chain_run.proofs.ProgressLemmas.{as-progress}

module _ {S K P : Type 0} (see : Seeing S K P)
    (laws : MachineLaws)
    (begun : RunStart S K) where
  -- a visit that the machine allows, in the words of the core
  pub to-core : (core : CoreNumbers) (state : ChainState) (k done : ℕ) (word : StageWord) → core.plan ≡ begun.plan → StandsFor core state → MayVisit begun.plan (progress_of_stages state) state.told k done word → MayVisit core.plan (progress_of_core core) core.told k done word
  to-core core state k done word plan_is numbers may =
      subst (λ p. MayVisit p (progress_of_core core) core.told k done word) (sym plan_is)
      (subst (λ t. MayVisit begun.plan (progress_of_core core) t k done word) (sym numbers.told)
      (subst (λ (m : StagesProgress). MayVisit begun.plan m state.told k done word) (sym (as-progress core state numbers)) may))

  module _ (core : CoreNumbers) (parts : List (StagePart S K P)) (cells : List Cell) (goes : IsRunning see begun core parts cells) (k : ℕ) (is_stage : k ≤ suc core.plan.plugins) (open_ : (progress_of_core core k).ended ≡ None) where
    abbrev visits : List Visit
    visits = goes.runs.visits

    abbrev by : RunsBy see begun core parts cells goes.runs.visits goes.runs.part goes.runs.lists
    by = goes.runs.by

    abbrev state : ChainState
    state = state_after begun.plan goes.runs.visits

    is_stage' : k ≤ suc begun.plan.plugins
    is_stage' = subst (λ (p : CorePlan). k ≤ suc p.plugins) goes.fits.plan_is is_stage

    pub open-state : (state.stages k).ended ≡ None
    open-state = sym (ap (λ (m : Progress). m.ended) (by.numbers.progress k)) ∙ open_

    quiet-allowed : Allowed begun.plan state (visit_of k [] nothing_told)
    quiet-allowed = record {
      is_stage = is_stage';
      goes_on = open-state;
      held = (let a = given-taken laws begun.plan goes.fits.run.valid.users goes.runs.visits by.ran.run k in omega arith);
      agreement = λ agreed e. cc;
      below_limit = λ o limit t lt. absurd (omega arith);
      follows = λ e. cc;
    }

    -- the first visit may be made
    pub quiet-may : MayVisit core.plan (progress_of_core core) core.told k 0 nothing_told
    quiet-may = to-core core state k 0 nothing_told goes.fits.plan_is by.numbers quiet-allowed

  -- the same, over equal stages and cells
  moved-by : (core : CoreNumbers) (parts parts_new : List (StagePart S K P)) (cells cells_new : List Cell) (visits : List Visit) (part : ℕ → StagePart S K P) (lists : ℕ → PartLists)
      → parts ≡ parts_new → cells ≡ cells_new → RunsBy see begun core parts cells visits part lists → RunsBy see begun core parts_new cells_new visits part lists
  moved-by core parts parts_new cells cells_new visits part lists same_parts same_cells by =
      subst (λ (ps : List (StagePart S K P)). RunsBy see begun core ps cells_new visits part lists) same_parts
      (subst (λ (cs : List Cell). RunsBy see begun core parts cs visits part lists) same_cells by)

  -- a stage of a running chain has its news
  pub record Looked (core : CoreNumbers) (parts : List (StagePart S K P)) (cells : List Cell) (k : ℕ) (news : News) : Type 0 where
    pub fits : NumbersFit begun core (length parts) (length cells)
    pub visits : List Visit
    pub part : ℕ → StagePart S K P
    pub lists : ℕ → PartLists
    pub by : RunsBy see begun core parts cells visits part lists
    pub is_stage : k ≤ suc begun.plan.plugins
    pub open_ : ((state_after begun.plan visits).stages k).ended ≡ None
    pub told : news ≡ news_of begun.plan (progress_of_stages (state_after begun.plan visits)) k
    pub limit_told : k ≡ suc begun.plan.plugins → (state_after begun.plan visits).told ≡ limit_of begun.plan (progress_of_stages (state_after begun.plan visits))

  -- the first visit
  pub look : (core new : CoreNumbers) (parts : List (StagePart S K P)) (cells : List Cell) (goes : IsRunning see begun core parts cells) (k : ℕ) (news : News) → k ≤ suc core.plan.plugins → (progress_of_core core k).ended ≡ None
      → new.plan ≡ core.plan
      → ((state : ChainState) (gave : List Cell) → length gave ≡ 0 → StandsFor core state → StandsFor new (visited core.plan state (visit_of k gave nothing_told)))
      → ((state : ChainState) (gave : List Cell) → length gave ≡ 0 → StandsFor core state → news ≡ news_after core.plan state (visit_of k gave nothing_told))
      → (looked : Looked new parts cells k news) × (looked.visits ≡ visit_of k [] nothing_told ∷ goes.runs.visits)
  look core new parts cells goes k news is_stage open_ plan_same visited_is news_is =
      let by = goes.runs.by in
      let state : ChainState = state_after begun.plan goes.runs.visits in
      let quiet : Visit = visit_of k [] nothing_told in
      let allowed = quiet-allowed core parts cells goes k is_stage open_ in
      let stage : k ≤ suc begun.plan.plugins = is_stage' core parts cells goes k is_stage open_ in
      let numbers : StandsFor new (state_after begun.plan (quiet ∷ goes.runs.visits)) =
      subst (λ (s : ChainState). StandsFor new s) (sym (after-visit begun.plan goes.runs.visits quiet))
      (subst (λ (p : CorePlan). StandsFor new (visited p state quiet)) goes.fits.plan_is (visited_is state [] refl by.numbers)) in
      let changed = change laws begun.plan goes.fits.run.valid.users goes.runs.visits quiet (by.ran.run, allowed) in
      let told : news ≡ news_of begun.plan (progress_of_stages (state_after begun.plan (quiet ∷ goes.runs.visits))) k =
      subst (λ (s : ChainState). news ≡ news_of begun.plan (progress_of_stages s) k) (sym (after-visit begun.plan goes.runs.visits quiet))
      (subst (λ (p : CorePlan). news ≡ news_after p state quiet) goes.fits.plan_is (news_is state [] refl by.numbers)) in (
        record {
          fits = record {
            plan_is = plan_same ∙ goes.fits.plan_is;
            run = goes.fits.run;
            stages_are = goes.fits.stages_are;
            slots_are = goes.fits.slots_are;
          };
          visits = quiet ∷ goes.runs.visits;
          part = set_at goes.runs.part k (goes.runs.part k);
          lists = set_at goes.runs.lists k (goes.runs.lists k);
          by = quiet-visit see begun laws goes.fits.run.valid core new parts cells goes.runs.visits goes.runs.part goes.runs.lists by k stage
              (open-state core parts cells goes k is_stage open_) allowed numbers (let a = goes.fits.stages_are in omega arith);
          is_stage = stage;
          open_ = changed.ended;
          told = told;
          limit_told = changed.told;
        },
        refl,
      )

  -- ---- its work

  module _ (core : CoreNumbers) (parts : List (StagePart S K P)) (cells : List Cell) (k : ℕ) (news : News) (looked : Looked core parts cells k news) where
    abbrev now : ChainState
    now = state_after begun.plan looked.visits

    mark-is : progress_of_core core k ≡ progress_of_stages now k
    mark-is = looked.by.numbers.progress k

    pub work-written : news.written ≤ (progress_of_core core k).given
    work-written =
        let a = written-below see begun laws looked.fits.run core core parts cells looked.visits looked.part looked.lists looked.by k looked.is_stage looked.open_ news looked.told in
        let b : (progress_of_core core k).given ≡ length (now.stages k).given = ap (λ (m : Progress). m.given) mark-is in omega arith

    pub work-given : (progress_of_core core k).given ≤ news.taken
    work-given =
        let a = given-below see begun laws looked.fits.run core core parts cells looked.visits looked.part looked.lists looked.by k looked.is_stage looked.open_ news looked.told in
        let b : (progress_of_core core k).given ≡ length (now.stages k).given = ap (λ (m : Progress). m.given) mark-is in omega arith

    pub work-taken : news.taken ≤ 2 ^ 60
    work-taken =
        let a = taken-below laws begun.plan looked.fits.run.valid.users looked.visits looked.by.ran.run k in
        let b : news.taken ≡ (now.stages k).taken = ap (λ (n : News). n.taken) looked.told in omega arith

    pub work-stands : (d : StagePart S K P) → MayWorkOnSome (PartStands see (slice_index_or parts k d)) (progress_of_core core k).given news.written
    work-stands d =
        let b : (progress_of_core core k).given ≡ length (now.stages k).given = ap (λ (m : Progress). m.given) mark-is in
        subst (λ (p : StagePart S K P). MayWorkOnSome (PartStands see p) (progress_of_core core k).given news.written) (sym (looked.by.ran.parts_are k d looked.is_stage))
        (subst (λ n. MayWorkOnSome (PartStands see (looked.part k)) n news.written) (sym b)
        (record { lists = looked.lists k; may = may see begun laws looked.fits.run core core parts cells looked.visits looked.part looked.lists looked.by k looked.is_stage looked.open_ news looked.told }))

    -- ---- the second visit

    module _ (parts_new : List (StagePart S K P)) (cells_new : List Cell) (work : Work) (works : StageWorks see parts parts_new cells cells_new k (progress_of_core core k).given news work) where
      abbrev at : ℕ
      at = length (now.stages k).given

      at-is : (progress_of_core core k).given ≡ at
      at-is = ap (λ (m : Progress). m.given) mark-is

      -- the same, in the words of the state
      pub here : StageWorks see parts parts_new cells cells_new k at news work
      here = subst (λ n. StageWorks see parts parts_new cells cells_new k n news work) at-is works

      old-is : here.old ≡ looked.part k
      old-is = here.is_old ∙ looked.by.ran.parts_are k here.old looked.is_stage

      pub worked : PartWork see (looked.part k) here.new at news (take here.len (drop (at % length cells) cells)) here.window_new work
      worked = subst (λ p. PartWork see p here.new at news (take here.len (drop (at % length cells) cells)) here.window_new work) old-is here.worked

      pub taken-is : news.taken ≡ (now.stages k).taken
      taken-is = ap (λ (n : News). n.taken) looked.told

      done-le : work.done ≤ here.len
      done-le = let a = worked.stage.done in omega (arith, length-take here.len (drop (at % length cells) cells), length-drop (at % length cells) cells)

      pub given-le : at + work.done ≤ news.taken
      given-le = let a = done-le in let b = here.in_hand in omega arith

      pub works-length : length (take work.done here.window_new) ≡ work.done
      works-length = let a = done-le in let b = here.same_length in omega (arith, length-take work.done here.window_new)

      pub may-now : MayWork (PartStands see (looked.part k)) at news.written (looked.lists k)
      may-now = may see begun laws looked.fits.run core core parts cells looked.visits looked.part looked.lists looked.by k looked.is_stage looked.open_ news looked.told

      may-state : MayVisit begun.plan (progress_of_stages now) now.told k work.done work.word
      may-state = subst (λ n. MayVisit begun.plan (progress_of_stages now) now.told k n work.word) works-length
          (may-visit see begun laws looked.fits.run core core parts cells looked.visits looked.part looked.lists looked.by k looked.is_stage looked.open_ news looked.told
          here.new here.len here.in_hand here.in_row here.window_new here.same_length work worked looked.limit_told)

      -- the second visit may be made
      pub work-may : MayVisit core.plan (progress_of_core core) core.told k work.done work.word
      work-may = to-core core now k work.done work.word looked.fits.plan_is looked.by.numbers may-state

      -- and then the chain goes on
      pub turned : (new : CoreNumbers) → new.plan ≡ core.plan
          → ((state : ChainState) (gave : List Cell) → length gave ≡ work.done → StandsFor core state → StandsFor new (visited core.plan state (visit_of k gave work.word)))
          → RanOn see begun looked.visits new parts_new cells_new
      turned new plan_same visited_is =
          let given : List Cell = take work.done here.window_new in
          let visit : Visit = visit_of k given work.word in
          let allowed : Allowed begun.plan now visit = subst (λ n. MayVisit begun.plan (progress_of_stages now) now.told k n work.word) (sym works-length) may-state in
          let numbers : StandsFor new (state_after begun.plan (visit ∷ looked.visits)) =
          subst (λ (s : ChainState). StandsFor new s) (sym (after-visit begun.plan looked.visits visit))
          (subst (λ (p : CorePlan). StandsFor new (visited p now visit)) looked.fits.plan_is (visited_is now given works-length looked.by.numbers)) in
          let row : List Cell = here.window_new in
          let cells-are : cells_new ≡ take (at % length cells) cells ++ (row ++ drop (at % length cells + length row) cells) =
          here.cells_are ∙ ap (λ n. take (at % length cells) cells ++ (row ++ drop (at % length cells + n) cells)) (sym here.same_length) in
          let by = worked-visit see begun laws looked.fits.run
          core new parts cells looked.visits looked.part looked.lists looked.by k looked.is_stage looked.open_ news looked.told
          here.new here.len here.in_hand here.in_row here.window_new here.same_length work worked allowed looked.fits.slots_are numbers (let a = looked.fits.stages_are in omega arith) in
          record {
            now = record {
              fits = record {
                plan_is = plan_same ∙ looked.fits.plan_is;
                run = looked.fits.run;
                stages_are = ap (λ (l : List (StagePart S K P)). length l) here.is_new ∙ (length-set parts k here.new ∙ looked.fits.stages_are);
                slots_are = ap (λ (l : List Cell). length l) cells-are ∙ (length-over_row cells (at % length cells) row (let a = here.in_row in let b = here.same_length in omega arith) ∙ looked.fits.slots_are);
              };
              runs = record {
                visits = visit ∷ looked.visits;
                part = set_at looked.part k here.new;
                lists = _;
                by = moved-by new (slice_set parts k here.new) parts_new (take (at % length cells) cells ++ (row ++ drop (at % length cells + length row) cells)) cells_new
                    (visit ∷ looked.visits) (set_at looked.part k here.new) _ (sym here.is_new) (sym cells-are) by;
              };
            };
            more = visit ∷ [];
            visits_are = refl;
          }
