-- The laws of visits: what one changes and leaves, what news promise, and that a quiet chain has ended.
use Rattle.std.proofs.Common.{◌≡◌, ◌≢◌, ◌⊎◌, inl, inr, ℕ, zero, suc, min, ◌+◌, ◌<◌, ◌≤◌, List, ◌++◌, length, take, true, false, Option, Some, None, refl, ap, sym, ◌∙◌, subst, arith}
use Rattle.std.specs.Prelude.{is_some, IsSome, ◌==◌, ◌&&◌, nat_le}
use Rattle.std.proofs.lemmas.Bool.{cases_eq, and_parts, and_from, eq-eqb, le-leb}
use Rattle.std.proofs.lemmas.List.{take-append-le}
use Rattle.ts_packet.specs.declared.cell.Cell.{Cell}
use Rattle.chain_model.specs.Cut.{lesser_end}
use Rattle.chain_model.specs.declared.positions.TheConstants.{POSITION_LIMIT}
use Rattle.chain_core.specs.declared.core_plan.CorePlan.{CorePlan}
use Rattle.chain_core.specs.declared.progress.Progress.{Progress}
use Rattle.chain_core.specs.declared.stage_end.StageEnd.{StageEnd}
use Rattle.chain_core.specs.Numbers.{limit_of, written_of, is_before_over, is_after_over, MayFollow, IsAgreement}
use Rattle.chain_core.specs.Machine.{StageState, ChainState, Visit, progress_of_stage, progress_of_stages, noted, visited, Allowed}
use Rattle.chain_core.specs.ChainRun.{took, AllEnded}
use Rattle.chain_core.specs.Keeps.{StageKeeps}
use Rattle.chain_core.specs.Laws.{ChangesOneStage, LeavesOthers, NewsHold, NewsGrow, IsQuiet}
use Rattle.chain_core.proofs.Facts.{falls}
use Rattle.chain_core.proofs.Stepping.{visited-other, visited-same, noted-told, served-told_output, served-told_other}
use Rattle.chain_core.proofs.Soundness.{gave, took_count, Sound, gave-falls, noted-limit_kept, noted-gave_grows, served-limit, served-gave}

pub visited-limit : (plan : CorePlan) (state : ChainState) (visit : Visit) → limit_of plan (progress_of_stages (visited plan state visit)) ≡ limit_of plan (progress_of_stages (noted plan state visit))
unfolding visited
visited-limit plan state visit = served-limit plan (noted plan state visit) visit.stage

visited-told_output : (plan : CorePlan) (state : ChainState) (visit : Visit) → visit.stage ≡ suc plan.plugins → (visited plan state visit).told ≡ limit_of plan (progress_of_stages (visited plan state visit))
unfolding visited
visited-told_output plan state visit is =
    served-told_output plan (noted plan state visit) visit.stage is ∙ sym (served-limit plan (noted plan state visit) visit.stage)

visited-told_other : (plan : CorePlan) (state : ChainState) (visit : Visit) → visit.stage ≢ suc plan.plugins → (visited plan state visit).told ≡ state.told
unfolding visited
visited-told_other plan state visit apart =
    served-told_other plan (noted plan state visit) visit.stage apart ∙ noted-told plan state visit

visited-gave_grows : (plan : CorePlan) (state : ChainState) (visit : Visit) (j : ℕ) → gave state j ≤ gave (visited plan state visit) j
unfolding visited
visited-gave_grows plan state visit j =
    let a = served-gave plan (noted plan state visit) visit.stage j in
    let b = noted-gave_grows plan state visit j in omega arith

pub changes : (plan : CorePlan) (state : ChainState) (visit : Visit) → ChangesOneStage plan state (visited plan state visit) visit
changes plan state visit = record {
  given = ap (λ (stage : StageState). stage.given) (visited-same plan state visit);
  taken = refl;
  ended = ap (λ (stage : StageState). stage.ended) (visited-same plan state visit);
  others = visited-other plan state visit;
  no_less = (let e = ap (λ (stage : StageState). stage.taken) (visited-same plan state visit) in omega arith);
  told = visited-told_output plan state visit;
  not_told = visited-told_other plan state visit;
}

limit-kept : (plan : CorePlan) (state : ChainState) (visit : Visit) (limit : ℕ) → limit_of plan (progress_of_stages state) ≡ Some limit → limit_of plan (progress_of_stages (visited plan state visit)) ≡ Some limit
limit-kept plan state visit limit is =
    visited-limit plan state visit ∙ noted-limit_kept plan state visit limit is

-- what a visit leaves
module _ (plan : CorePlan) (state : ChainState) (visit : Visit) (sound : Sound plan state) (ok : Allowed plan state visit) where
  same-progress : (j : ℕ) → j ≢ visit.stage → progress_of_stages (visited plan state visit) j ≡ progress_of_stages state j
  same-progress j apart = ap progress_of_stage (visited-other plan state visit j apart)

  ended-apart : (j : ℕ) → is_some (state.stages j).ended ≡ true → j ≢ visit.stage
  ended-apart j is same =
      let none = ok.goes_on in
      let e : is_some (state.stages j).ended ≡ false = ap (λ (o : Option StageEnd). is_some o) (ap (λ i. (state.stages i).ended) same ∙ none) in absurd cc

  before-stays : (j : ℕ) → j ≢ visit.stage → is_before_over (progress_of_stages state) j ≡ true → is_before_over (progress_of_stages (visited plan state visit)) j ≡ true
  before-stays zero apart over = over
  before-stays (suc i) apart over =
      let both = and_parts (is_some (state.stages i).ended) (gave state (suc i) == gave state i) over in
      let apart' = ended-apart i both.0 in
      (λ t. is_some (same-progress i apart' t).ended && (same-progress (suc i) apart t).given == (same-progress i apart' t).given) ∙ over

  after-stays : (j : ℕ) → is_after_over plan (progress_of_stages state) j ≡ true → is_after_over plan (progress_of_stages (visited plan state visit)) j ≡ true
  after-stays j over =
      let both = and_parts (nat_le j plan.plugins) (is_some (state.stages (suc j)).ended) over in
      let apart = ended-apart (suc j) both.1 in
      ap (λ (m : Progress). nat_le j plan.plugins && is_some m.ended) (same-progress (suc j) apart) ∙ over

  follow-stays : (j now : ℕ) → j ≢ visit.stage → MayFollow plan (progress_of_stages state) j now → MayFollow plan (progress_of_stages (visited plan state visit)) j now
  follow-stays j now apart (inl over) = inl (before-stays j apart over)
  follow-stays j now apart (inr (inl over)) = inr (inl (after-stays j over))
  follow-stays j now apart (inr (inr (limit, is, le))) =
      inr (inr (limit, limit-kept plan state visit limit is, le))

  allowed-stays : (other : Visit) → other.stage ≢ visit.stage → Allowed plan state other → Allowed plan (visited plan state visit) other
  allowed-stays other apart may =
      let j = other.stage in
      let n = length other.cells in
      let e = visited-other plan state visit j apart in
      record {
        is_stage = may.is_stage;
        goes_on = ap (λ (stage : StageState). stage.ended) e ∙ may.goes_on;
        held = subst (λ (stage : StageState). length stage.given + n ≤ stage.taken) (sym e) may.held;
        agreement = subst (λ (stage : StageState). (agreed : ℕ) → other.word.agreed ≡ Some agreed → IsAgreement (length stage.given) (length stage.given + n) agreed) (sym e) may.agreement;
        below_limit = (λ is limit told some. subst (λ (stage : StageState). length stage.given + n ≤ limit) (sym e) (may.below_limit is limit (sym (visited-told_other plan state visit (λ at. apart (is ∙ sym at))) ∙ told) some));
        follows = (λ is. subst (λ (stage : StageState). MayFollow plan (progress_of_stages (visited plan state visit)) j (length stage.given + n)) (sym e) (follow-stays j (gave state j + n) apart (may.follows is)));
      }

  took-same : (j : ℕ) → j ≢ visit.stage → took (visited plan state visit) j ≡ took state j
  took-same zero apart = refl
  took-same (suc i) apart =
      let e = visited-other plan state visit (suc i) apart in
      elim (cases_eq i visit.stage) [
        | inl same ↦ ap (λ n. take n ((visited plan state visit).stages i).given) (ap (λ (stage : StageState). stage.taken) e) ∙ grown same
        | inr apart' ↦ (λ t. take (e t).taken (visited-other plan state visit i apart' t).given)
      ]
    where
      grown : i ≡ visit.stage → take (took_count state (suc i)) ((visited plan state visit).stages i).given ≡ take (took_count state (suc i)) (state.stages i).given
      grown same =
          let h = sound.handed i in
          let given : ((visited plan state visit).stages i).given ≡ (state.stages i).given ++ visit.cells = subst (λ k. ((visited plan state visit).stages k).given ≡ (state.stages k).given ++ visit.cells) (sym same) (ap (λ (stage : StageState). stage.given) (visited-same plan state visit)) in
          ap (take (took_count state (suc i))) given ∙ take-append-le (took_count state (suc i)) (state.stages i).given visit.cells h

  pub leaves : LeavesOthers plan state (visited plan state visit) visit
  leaves = record {
    allowed = allowed-stays;
    took_same = took-same;
    keeps = (λ rules input other apart kept. subst (λ (met : List Cell). StageKeeps rules input plan.plugins other.stage met ((visited plan state visit).stages other.stage).given other.cells other.word) (sym (took-same other.stage apart)) (subst (λ (stage : StageState). StageKeeps rules input plan.plugins other.stage (took state other.stage) stage.given other.cells other.word) (sym (visited-other plan state visit other.stage apart)) kept));
  }

-- ---- the news

written-is : (plan : CorePlan) (state : ChainState) → Sound plan state → written_of plan (progress_of_stages state) ≡ gave state (suc plan.plugins)
written-is plan state sound =
    elim (limit_of plan (progress_of_stages state)) as (λ o. limit_of plan (progress_of_stages state) ≡ o → lesser_end (gave state (suc plan.plugins)) o ≡ gave state (suc plan.plugins)) [
      | None ↦ (λ is. refl)
      | Some limit ↦ (λ is. (let h : gave state (suc plan.plugins) ≤ limit = (sound.limited limit is).0 in omega arith))
    ] refl

pub news-hold : (plan : CorePlan) (state : ChainState) (k : ℕ) → Sound plan state → NewsHold plan state k
news-hold plan state k sound =
    let w = written-is plan state sound in
    let first = falls (took_count state) (λ i. (let a = sound.handed i in let b = sound.within i in omega arith)) k 0 (omega arith) in
    record {
      taken_ahead = (let b = sound.bound in omega arith);
      taken_below = below (took_count state k) (took_count state 0) POSITION_LIMIT first sound.places;
      written_within = (λ le. (let f = gave-falls plan state sound (suc plan.plugins) k le in omega arith));
      given_within = sound.within k;
      taken_within = (λ j is. subst (λ i. took_count state i ≤ gave state j) (sym is) (sound.handed j));
    }
  where
    below : (a b c : ℕ) → a ≤ b → b ≤ c → a ≤ c
    below a b c p q = omega arith

pub news-grow : (plan : CorePlan) (state : ChainState) (visit : Visit) → Sound plan state → Sound plan (visited plan state visit) → NewsGrow plan state (visited plan state visit)
news-grow plan state visit sound after = record {
  written = (let a = written-is plan state sound in let b = written-is plan (visited plan state visit) after in let g = visited-gave_grows plan state visit (suc plan.plugins) in omega arith);
  limit = limit-kept plan state visit;
}

-- ---- a quiet chain

is-open : (o : Option StageEnd) → (o ≡ None) ⊎ IsSome o
is-open None = inl refl
is-open (Some end) = inr refl

module _ (plan : CorePlan) (state : ChainState) (sound : Sound plan state) (some_buffer : 1 ≤ plan.buffer) (quiet : IsQuiet plan state) where
  -- a stage that goes on has given all that the one before it gave
  level : (j : ℕ) → suc j ≤ suc plan.plugins → (state.stages (suc j)).ended ≡ None → gave state (suc j) ≡ gave state j
  level j le open_ =
      let a = quiet.took_all (suc j) le open_ in
      let b = quiet.gave_all (suc j) le open_ in
      let c = sound.within (suc j) in let d = sound.handed j in omega arith

  -- after a stage that has ended every stage has ended
  behind-ended : (j : ℕ) → suc j ≤ suc plan.plugins → IsSome (state.stages j).ended → IsSome (state.stages (suc j)).ended
  behind-ended j le is =
      elim (is-open (state.stages (suc j)).ended) [
        | inr ended ↦ ended
        | inl open_ ↦ absurd (quiet.not_following (suc j) le open_ (inl (and_from (is_some (state.stages j).ended) (gave state (suc j) == gave state j) is (eq-eqb (gave state (suc j)) (gave state j) (level j le open_)))))
      ]

  -- before a stage that goes on every stage goes on
  first-open : IsSome (state.stages 0).ended → (k : ℕ) → k ≤ suc plan.plugins → IsSome (state.stages k).ended
  first-open is zero le = is
  first-open is (suc j) le = behind-ended j le (first-open is j (omega arith))

  -- after a stage that goes on no stage has ended
  none-ended : (state.stages 0).ended ≡ None → (k : ℕ) → k ≤ suc plan.plugins → (state.stages k).ended ≡ None
  none-ended is zero le = is
  none-ended is (suc j) le =
      let before = none-ended is j (omega arith) in
      elim (is-open (state.stages (suc j)).ended) [
        | inl open_ ↦ open_
        | inr ended ↦ absurd (quiet.not_following j (omega arith) before (inr (inl (and_from (nat_le j plan.plugins) (is_some (state.stages (suc j)).ended) (le-leb j plan.plugins (omega arith)) ended))))
      ]

  all-level : (state.stages 0).ended ≡ None → (k : ℕ) → k ≤ suc plan.plugins → gave state k ≡ gave state 0
  all-level is zero le = refl
  all-level is (suc j) le =
      level j le (none-ended is (suc j) le) ∙ all-level is j (omega arith)

  full : (given output taken buffer limit : ℕ) → output ≡ given → min (output + buffer) limit ≤ taken → taken ≤ given → given < limit → 1 ≤ buffer → ⊥
  full given output taken buffer limit a b c d e = omega arith

  pub quiet-over : AllEnded plan (progress_of_stages state)
  quiet-over k le =
      elim (is-open (state.stages 0).ended) [
        | inr ended ↦ first-open ended k le
        | inl open_ ↦ absurd (full (gave state 0) (gave state (suc plan.plugins)) (took_count state 0) plan.buffer POSITION_LIMIT (all-level open_ (suc plan.plugins) (omega arith)) (quiet.took_all 0 (omega arith) open_) (quiet.gave_all 0 (omega arith) open_) (quiet.input_below open_) some_buffer)
      ]
