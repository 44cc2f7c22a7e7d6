-- The core's steps are the machine's steps.
use Rattle.std.proofs.Common.{◌≡◌, ◌≢◌, ℕ, suc, ◌+◌, ◌<◌, ◌≤◌, List, length, map, Option, ap, sym, ◌∙◌, subst, arith, inl, inr, length-append, get_or-set_same, get_or-set_other}
use Rattle.std.specs.Prelude.{slice_set, ◌==◌, if◌then◌else◌}
use Rattle.std.proofs.lemmas.Bool.{cases_eq}
use Rattle.std.proofs.lemmas.List.{length-set}
use Rattle.ts_packet.specs.declared.cell.Cell.{Cell}
use Rattle.chain_model.specs.Joint.{greatest_if_all}
use Rattle.chain_core.specs.declared.core_plan.CorePlan.{CorePlan}
use Rattle.chain_core.specs.declared.progress.Progress.{Progress}
use Rattle.chain_core.specs.declared.stage_word.StageWord.{StageWord}
use Rattle.chain_core.specs.Stages.{has_stage, stages_of}
use Rattle.chain_core.specs.Close.{closed_of}
use Rattle.chain_core.specs.Numbers.{StagesProgress, limit_of, takes_of, news_of, MayVisit}
use Rattle.chain_core.specs.Machine.{ChainState, Visit, progress_of_stage, progress_of_stages, noted, served, visited}
use Rattle.chain_core.specs.CoreNumbers.{CoreNumbers, fresh_progress, progress_in, progress_of_core, StandsFor, noted_progress, taking_progress, noted_numbers, served_numbers}
use Rattle.chain_core.proofs.Stepping.{noted_stage, noted-same, noted-other, noted-told, served-same, served-other}

-- the progress as one function
pub stands-progress : (core : CoreNumbers) (state : ChainState) → StandsFor core state → progress_of_core core ≡ progress_of_stages state
stands-progress core state stands = λ i k. stands.progress k i

set-same : (row : List Progress) (k : ℕ) (progress : Progress) → k < length row → progress_in (slice_set row k progress) k ≡ progress
set-same row k progress lt = get_or-set_same row k progress fresh_progress lt

set-other : (row : List Progress) (k : ℕ) (progress : Progress) (j : ℕ) → j ≢ k → progress_in (slice_set row k progress) j ≡ progress_in row j
set-other row k progress j apart = get_or-set_other row k j progress fresh_progress apart

pub served-limit_numbers : (core : CoreNumbers) (k : ℕ) → k < length core.progress → limit_of core.plan (progress_of_core (served_numbers core k)) ≡ limit_of core.plan (progress_of_core core)
served-limit_numbers core k lt =
    ap (λ (f : ℕ → Option ℕ). greatest_if_all (map f (stages_of core.plan.users))) (λ i u. agreed u i)
  where
    agreed : (u : ℕ) → (progress_of_core (served_numbers core k) u).agreed ≡ (progress_of_core core u).agreed
    agreed u =
        elim (cases_eq u k) [
          | inl same ↦ subst (λ i. (progress_of_core (served_numbers core k) i).agreed ≡ (progress_of_core core i).agreed) (sym same) (ap (λ (m : Progress). m.agreed) (set-same core.progress k (taking_progress (progress_of_core core k) (takes_of core.plan (progress_of_core core) k)) lt))
          | inr apart ↦ ap (λ (m : Progress). m.agreed) (set-other core.progress k (taking_progress (progress_of_core core k) (takes_of core.plan (progress_of_core core) k)) u apart)
        ]

abbrev with_given : ℕ → Progress → Progress
with_given n progress = record { given = n; taken = progress.taken; agreed = progress.agreed; ended = progress.ended }

module _ (core : CoreNumbers) (state : ChainState) (stands : StandsFor core state) where
  -- the first step
  module _ (k : ℕ) (cells : List Cell) (word : StageWord) (lt : k < length core.progress) where
    abbrev visit : Visit
    visit = record { stage = k; cells = cells; word = word }

    noted-here : progress_of_core (noted_numbers core k (length cells) word) k ≡ progress_of_stages (noted core.plan state visit) k
    noted-here =
        set-same core.progress k (noted_progress (has_stage core.plan.users k) (progress_of_core core k) (length cells) word) lt
        ∙ (ap (λ (m : Progress). noted_progress (has_stage core.plan.users k) m (length cells) word) (stands.progress k)
        ∙ (ap (λ (n : ℕ). with_given n (progress_of_stage (noted_stage core.plan (state.stages k) visit))) (sym (length-append (state.stages k).given cells))
        ∙ ap progress_of_stage (sym (noted-same core.plan state visit))))

    noted-there : (j : ℕ) → j ≢ k → progress_of_core (noted_numbers core k (length cells) word) j ≡ progress_of_stages (noted core.plan state visit) j
    noted-there j apart =
        set-other core.progress k (noted_progress (has_stage core.plan.users k) (progress_of_core core k) (length cells) word) j apart
        ∙ (stands.progress j ∙ ap progress_of_stage (sym (noted-other core.plan state visit j apart)))

    pub stands-noted : StandsFor (noted_numbers core k (length cells) word) (noted core.plan state visit)
    stands-noted = record {
      progress = (λ j. elim (cases_eq j k) [
        | inl same ↦ subst (λ i. progress_of_core (noted_numbers core k (length cells) word) i ≡ progress_of_stages (noted core.plan state visit) i) (sym same) noted-here
        | inr apart ↦ noted-there j apart
      ]);
      told = stands.told ∙ sym (noted-told core.plan state visit);
    }

  -- the second step
  module _ (k : ℕ) (lt : k < length core.progress) where
    same-takes : takes_of core.plan (progress_of_core core) k ≡ takes_of core.plan (progress_of_stages state) k
    same-takes =
        ap (λ (progress : StagesProgress). takes_of core.plan progress k) (stands-progress core state stands)

    served-here : progress_of_core (served_numbers core k) k ≡ progress_of_stages (served core.plan state k) k
    served-here =
        set-same core.progress k (taking_progress (progress_of_core core k) (takes_of core.plan (progress_of_core core) k)) lt
        ∙ ((λ i. taking_progress (stands.progress k i) (same-takes i))
        ∙ ap progress_of_stage (sym (served-same core.plan state k)))

    served-there : (j : ℕ) → j ≢ k → progress_of_core (served_numbers core k) j ≡ progress_of_stages (served core.plan state k) j
    served-there j apart =
        set-other core.progress k (taking_progress (progress_of_core core k) (takes_of core.plan (progress_of_core core) k)) j apart
        ∙ (stands.progress j ∙ ap progress_of_stage (sym (served-other core.plan state k j apart)))

    same-told : (served_numbers core k).told ≡ (served core.plan state k).told
    unfolding served
    same-told =
        λ i. if k == suc core.plan.plugins then limit_of core.plan (stands-progress core state stands i) else stands.told i

    pub stands-served : StandsFor (served_numbers core k) (served core.plan state k)
    stands-served = record {
      progress = (λ j. elim (cases_eq j k) [
        | inl same ↦ subst (λ i. progress_of_core (served_numbers core k) i ≡ progress_of_stages (served core.plan state k) i) (sym same) served-here
        | inr apart ↦ served-there j apart
      ]);
      told = same-told;
    }

length-noted : (core : CoreNumbers) (k done : ℕ) (word : StageWord) → length (noted_numbers core k done word).progress ≡ length core.progress
length-noted core k done word =
    length-set core.progress k (noted_progress (has_stage core.plan.users k) (progress_of_core core k) done word)

-- a visit
pub stands-visited : (core noted' served' : CoreNumbers) (state : ChainState) (k : ℕ) (cells : List Cell) (word : StageWord) → StandsFor core state → k < length core.progress → noted' ≡ noted_numbers core k (length cells) word → served' ≡ served_numbers noted' k → StandsFor served' (visited core.plan state (record { stage = k; cells = cells; word = word }))
unfolding visited
stands-visited core noted' served' state k cells word stands lt is_noted is_served =
    let visit : Visit = record { stage = k; cells = cells; word = word } in
    let a = stands-noted core state stands k cells word lt in
    let b = stands-served (noted_numbers core k (length cells) word) (noted core.plan state visit) a k (omega (arith, length-noted core k (length cells) word)) in
    subst (λ (new : CoreNumbers). StandsFor new (served core.plan (noted core.plan state visit) k)) (sym (is_served ∙ ap (λ (old : CoreNumbers). served_numbers old k) is_noted)) b

-- what the core allows the machine allows
pub stands-allowed : (core : CoreNumbers) (state : ChainState) (k done : ℕ) (cells : List Cell) (word : StageWord) → StandsFor core state → length cells ≡ done → MayVisit core.plan (progress_of_core core) core.told k done word → MayVisit core.plan (progress_of_stages state) state.told k (length cells) word
stands-allowed core state k done cells word stands size may =
    subst (λ (told : Option ℕ). MayVisit core.plan (progress_of_stages state) told k (length cells) word) stands.told
    (subst (λ (progress : StagesProgress). MayVisit core.plan progress core.told k (length cells) word) (stands-progress core state stands)
    (subst (λ n. MayVisit core.plan (progress_of_core core) core.told k n word) (sym size) may))

-- the stage of a visit has a progress
pub has-progress : (core noted' : CoreNumbers) (k done : ℕ) (word : StageWord) → noted' ≡ noted_numbers core k done word → length noted'.progress ≡ noted'.plan.plugins + 2 → k ≤ suc core.plan.plugins → (k < length core.progress) × (k < length noted'.progress)
has-progress core noted' k done word is size le =
    let plan : noted'.plan.plugins ≡ core.plan.plugins = ap (λ (c : CoreNumbers). c.plan.plugins) is in
    let long : length noted'.progress ≡ length core.progress = ap (λ (c : CoreNumbers). length c.progress) is ∙ length-noted core k done word in
    (omega arith, omega arith)

-- the news of the core are those of the machine
pub stands-news : (plan : CorePlan) (core : CoreNumbers) (state : ChainState) (k : ℕ) → StandsFor core state → news_of plan (progress_of_core core) k ≡ news_of plan (progress_of_stages state) k
stands-news plan core state k stands =
    ap (λ (progress : StagesProgress). news_of plan progress k) (stands-progress core state stands)

-- the close too
pub stands-closed : (core : CoreNumbers) (state : ChainState) → StandsFor core state → closed_of core.plan (progress_of_core core) ≡ closed_of core.plan (progress_of_stages state)
stands-closed core state stands = ap (closed_of core.plan) (stands-progress core state stands)
