-- What holds of every state that the machine comes to, whatever the stages' cells are.
use Rattle.std.proofs.Common.{◌≡◌, ◌≢◌, ◌⊎◌, inl, inr, ℕ, zero, suc, min, ◌+◌, ◌-◌, ◌≤◌, List, [], ◌∷◌, length, map, Bool, true, false, cond, Option, Some, None, refl, ap, sym, ◌∙◌, subst, arith, length-append}
use Rattle.std.specs.Prelude.{is_some, ◌==◌, nat_le}
use Rattle.std.specs.List.{AllByRecursion}
use Rattle.std.proofs.lemmas.Bool.{cases_eq, cases_lt, and_parts, eqb-true}
use Rattle.chain_model.specs.Joint.{greatest_if_all}
use Rattle.chain_model.specs.declared.positions.TheConstants.{POSITION_LIMIT}
use Rattle.chain_model.proofs.GreatestLaws.{IsKept, IsNewFrom, greatest-kept, greatest-new}
use Rattle.chain_core.specs.declared.core_plan.CorePlan.{CorePlan}
use Rattle.chain_core.specs.declared.stage_end.StageEnd.{StageEnd}
use Rattle.chain_core.specs.declared.stage_end.StageEnd.TheVariants.{Input, Last, Stop, Refuse, WriteFault, NoMemory, Followed}
use Rattle.chain_core.specs.Stages.{has_stage, stages_of}
use Rattle.chain_core.specs.Numbers.{UsersArePlugins, limit_of, takes_of, agreed_with, IsAgreement, MayFollow, is_before_over}
use Rattle.chain_core.specs.Machine.{StageState, ChainState, Visit, start, progress_of_stages, noted, served, visited, Allowed}
use Rattle.chain_core.specs.ChainRun.{ChainRun, state_after}
use Rattle.chain_core.specs.Close.{cause_of_stage}
use Rattle.chain_core.specs.EveryOrder.{IsCutWithin}
use Rattle.chain_core.proofs.Facts.{falls, all_by_recursion, all_each, all_map, cond-both}
use Rattle.chain_core.proofs.Stepping.{noted-same, noted-other, noted-told, served-same, served-other, served-told_output, served-told_other}

-- how many cells a stage has given
abbrev pub gave : ChainState → ℕ → ℕ
gave state k = length (state.stages k).given

-- how many it has taken
abbrev pub took_count : ChainState → ℕ → ℕ
took_count state k = (state.stages k).taken

-- only plugins use joint termination
abbrev pub AreUsers : CorePlan → Type 0
AreUsers plan = AllByRecursion (λ k. (1 ≤ k) × (k ≤ plan.plugins)) (stages_of plan.users)

pub users_from : (plan : CorePlan) → UsersArePlugins plan → AreUsers plan
users_from plan users =
    all_by_recursion (λ k. (1 ≤ k) × (k ≤ plan.plugins)) (stages_of plan.users) users

pub record Sound (plan : CorePlan) (state : ChainState) : Type 0 where
  pub within : (k : ℕ) → gave state k ≤ took_count state k
  pub handed : (k : ℕ) → took_count state (suc k) ≤ gave state k
  pub bound : took_count state 0 ≤ gave state (suc plan.plugins) + plan.buffer
  pub places : took_count state 0 ≤ POSITION_LIMIT
  pub limited : (limit : ℕ) → limit_of plan (progress_of_stages state) ≡ Some limit → (gave state (suc plan.plugins) ≤ limit) × ((state.told ≡ Some limit) ⊎ (took_count state (suc plan.plugins) ≤ limit))
  pub told_is : (limit : ℕ) → state.told ≡ Some limit → limit_of plan (progress_of_stages state) ≡ Some limit
  pub ended_in : (k : ℕ) (end : StageEnd) → (state.stages k).ended ≡ Some end → k ≤ suc plan.plugins
  pub key : (k : ℕ) (end : StageEnd) → (state.stages k).ended ≡ Some end → IsCutWithin plan (progress_of_stages state) (gave state k)

-- a later stage has given no more
pub gave-falls : (plan : CorePlan) (state : ChainState) → Sound plan state → (k j : ℕ) → j ≤ k → gave state k ≤ gave state j
gave-falls plan state sound k j le =
    falls (gave state) (λ i. (let a = sound.within (suc i) in let b = sound.handed i in omega arith)) k j le

agreed_with-kept : (plan : CorePlan) (k n : ℕ) (known told : Option ℕ) → known ≡ Some n → agreed_with plan k known told ≡ Some n
agreed_with-kept plan k n known told e =
    ap (λ (o : Option ℕ). agreed_with plan k o told) e ∙ cond-both (has_stage plan.users k) (Some n)

cond-told : (b : Bool) (told : Option ℕ) (n : ℕ) → cond b told None ≡ Some n → (b ≡ true) × (told ≡ Some n)
cond-told true told n e = (refl, e)
cond-told false told n e = absurd cc

agreed_with-new : (plan : CorePlan) (k n : ℕ) (known told : Option ℕ) → known ≡ None → agreed_with plan k known told ≡ Some n → (has_stage plan.users k ≡ true) × (told ≡ Some n)
agreed_with-new plan k n known told e is =
    cond-told (has_stage plan.users k) told n (ap (λ (o : Option ℕ). agreed_with plan k o told) (sym e) ∙ is)

-- the first step of a visit
module _ (plan : CorePlan) (state : ChainState) (visit : Visit) where
  pub noted-gave_same : gave (noted plan state visit) visit.stage ≡ gave state visit.stage + length visit.cells
  noted-gave_same =
      ap (λ (stage : StageState). length stage.given) (noted-same plan state visit) ∙ length-append (state.stages visit.stage).given visit.cells

  pub noted-gave_other : (j : ℕ) → j ≢ visit.stage → gave (noted plan state visit) j ≡ gave state j
  noted-gave_other j apart =
      ap (λ (stage : StageState). length stage.given) (noted-other plan state visit j apart)

  pub noted-gave_grows : (j : ℕ) → gave state j ≤ gave (noted plan state visit) j
  noted-gave_grows j =
      elim (cases_eq j visit.stage) [
        | inl same ↦ subst (λ i. gave state i ≤ gave (noted plan state visit) i) (sym same) (let e = noted-gave_same in omega arith)
        | inr apart ↦ (let e = noted-gave_other j apart in omega arith)
      ]

  pub noted-took : (j : ℕ) → took_count (noted plan state visit) j ≡ took_count state j
  noted-took j =
      elim (cases_eq j visit.stage) [
        | inl same ↦ subst (λ i. took_count (noted plan state visit) i ≡ took_count state i) (sym same) (ap (λ (stage : StageState). stage.taken) (noted-same plan state visit))
        | inr apart ↦ ap (λ (stage : StageState). stage.taken) (noted-other plan state visit j apart)
      ]

  pub noted-agreed_kept : (j n : ℕ) → (state.stages j).agreed ≡ Some n → ((noted plan state visit).stages j).agreed ≡ Some n
  noted-agreed_kept j n is =
      elim (cases_eq j visit.stage) [
        | inl same ↦ ap (λ i. ((noted plan state visit).stages i).agreed) same ∙ (ap (λ (stage : StageState). stage.agreed) (noted-same plan state visit) ∙ agreed_with-kept plan visit.stage n (state.stages visit.stage).agreed visit.word.agreed (ap (λ i. (state.stages i).agreed) (sym same) ∙ is))
        | inr apart ↦ ap (λ (stage : StageState). stage.agreed) (noted-other plan state visit j apart) ∙ is
      ]

  pub noted-agreed_new : (j n : ℕ) → (state.stages j).agreed ≡ None → ((noted plan state visit).stages j).agreed ≡ Some n → (j ≡ visit.stage) × (visit.word.agreed ≡ Some n)
  noted-agreed_new j n none is =
      elim (cases_eq j visit.stage) [
        | inl same ↦ (same, (agreed_with-new plan visit.stage n (state.stages visit.stage).agreed visit.word.agreed (ap (λ i. (state.stages i).agreed) (sym same) ∙ none) (sym (ap (λ (stage : StageState). stage.agreed) (noted-same plan state visit)) ∙ (ap (λ i. ((noted plan state visit).stages i).agreed) (sym same) ∙ is))).1)
        | inr apart ↦ (let e = ap (λ (stage : StageState). stage.agreed) (noted-other plan state visit j apart) in absurd cc)
      ]

  pub noted-ended_same : ((noted plan state visit).stages visit.stage).ended ≡ visit.word.ended
  noted-ended_same = ap (λ (stage : StageState). stage.ended) (noted-same plan state visit)

  pub noted-ended_other : (j : ℕ) → j ≢ visit.stage → ((noted plan state visit).stages j).ended ≡ (state.stages j).ended
  noted-ended_other j apart =
      ap (λ (stage : StageState). stage.ended) (noted-other plan state visit j apart)

  pub noted-limit_kept : (limit : ℕ) → limit_of plan (progress_of_stages state) ≡ Some limit → limit_of plan (progress_of_stages (noted plan state visit)) ≡ Some limit
  noted-limit_kept limit is =
      greatest-kept (λ u. (state.stages u).agreed) (λ u. ((noted plan state visit).stages u).agreed) (stages_of plan.users) limit (all_each (IsKept (λ u. (state.stages u).agreed) (λ u. ((noted plan state visit).stages u).agreed)) noted-agreed_kept (stages_of plan.users)) is

-- the first step keeps what holds
module _ (plan : CorePlan) (users : AreUsers plan) (state : ChainState) (visit : Visit) (sound : Sound plan state) (ok : Allowed plan state visit) where
  noted-within : (k : ℕ) → gave (noted plan state visit) k ≤ took_count (noted plan state visit) k
  noted-within k =
      elim (cases_eq k visit.stage) [
        | inl same ↦ subst (λ i. gave (noted plan state visit) i ≤ took_count (noted plan state visit) i) (sym same) (let e = noted-gave_same plan state visit in let t = noted-took plan state visit visit.stage in let h = ok.held in omega arith)
        | inr apart ↦ (let e = noted-gave_other plan state visit k apart in let t = noted-took plan state visit k in let h = sound.within k in omega arith)
      ]

  noted-handed : (k : ℕ) → took_count (noted plan state visit) (suc k) ≤ gave (noted plan state visit) k
  noted-handed k =
      let e = noted-gave_grows plan state visit k in
      let t = noted-took plan state visit (suc k) in let h = sound.handed k in omega arith

  -- where the limit becomes known, the output has taken no more
  noted-limit_new : (limit : ℕ) → limit_of plan (progress_of_stages state) ≡ None → limit_of plan (progress_of_stages (noted plan state visit)) ≡ Some limit → took_count state (suc plan.plugins) ≤ limit
  noted-limit_new limit none is =
      greatest-new (λ u. (state.stages u).agreed) (λ u. ((noted plan state visit).stages u).agreed) (took_count state (suc plan.plugins)) (stages_of plan.users) limit
      (all_each (IsKept (λ u. (state.stages u).agreed) (λ u. ((noted plan state visit).stages u).agreed)) (noted-agreed_kept plan state visit) (stages_of plan.users))
      (all_map (λ k. (1 ≤ k) × (k ≤ plan.plugins)) (IsNewFrom (λ u. (state.stages u).agreed) (λ u. ((noted plan state visit).stages u).agreed) (took_count state (suc plan.plugins))) fresh (stages_of plan.users) users)
      none is
    where
      above : (n : ℕ) → IsAgreement (gave state visit.stage) (gave state visit.stage + length visit.cells) n → gave state visit.stage ≤ n
      above n (inl a) = omega arith
      above n (inr a) = omega arith

      fresh : (u : ℕ) → (1 ≤ u) × (u ≤ plan.plugins) → IsNewFrom (λ u. (state.stages u).agreed) (λ u. ((noted plan state visit).stages u).agreed) (took_count state (suc plan.plugins)) u
      fresh u user n was is =
          let new = noted-agreed_new plan state visit u n was is in
          let a : gave state visit.stage ≤ n = above n (ok.agreement n new.1) in
          let b : gave state plan.plugins ≤ gave state visit.stage = gave-falls plan state sound plan.plugins visit.stage (omega (arith, user.1, new.0)) in
          let h = sound.handed plan.plugins in omega arith

  noted-output_within : (limit : ℕ) → limit_of plan (progress_of_stages state) ≡ Some limit → gave (noted plan state visit) (suc plan.plugins) ≤ limit
  noted-output_within limit is =
      elim (cases_eq (suc plan.plugins) visit.stage) [
        | inl same ↦ subst (λ i. gave (noted plan state visit) i ≤ limit) (sym same) (at_output same (sound.limited limit is).1)
        | inr apart ↦ (let e = noted-gave_other plan state visit (suc plan.plugins) apart in let h = (sound.limited limit is).0 in omega arith)
      ]
    where
      at_output : suc plan.plugins ≡ visit.stage → (state.told ≡ Some limit) ⊎ (took_count state (suc plan.plugins) ≤ limit) → gave (noted plan state visit) visit.stage ≤ limit
      at_output same (inl told) =
          let e = noted-gave_same plan state visit in
          let h : gave state (suc plan.plugins) ≤ limit = (sound.limited limit is).0 in
          let h' : gave state visit.stage ≤ limit = subst (λ i. gave state i ≤ limit) same h in
          elim (cases_lt 0 (length visit.cells)) [
            | inl some ↦ (let b = ok.below_limit (sym same) limit told some in omega arith)
            | inr none ↦ omega arith
          ]
      at_output same (inr took) =
          let e = noted-gave_same plan state visit in
          let h' : took_count state visit.stage ≤ limit = subst (λ i. took_count state i ≤ limit) same took in
          let h = ok.held in omega arith

  noted-limited : (limit : ℕ) → limit_of plan (progress_of_stages (noted plan state visit)) ≡ Some limit → (gave (noted plan state visit) (suc plan.plugins) ≤ limit) × (((noted plan state visit).told ≡ Some limit) ⊎ (took_count (noted plan state visit) (suc plan.plugins) ≤ limit))
  noted-limited limit is =
      elim (limit_of plan (progress_of_stages state)) as (λ o. limit_of plan (progress_of_stages state) ≡ o → (gave (noted plan state visit) (suc plan.plugins) ≤ limit) × (((noted plan state visit).told ≡ Some limit) ⊎ (took_count (noted plan state visit) (suc plan.plugins) ≤ limit))) [
        | None ↦ (λ none. let a = noted-limit_new limit none is in let t = noted-took plan state visit (suc plan.plugins) in let w = noted-within (suc plan.plugins) in (omega arith, inr (omega arith)))
        | Some known ↦ (λ was. same_limit (was ∙ (sym (noted-limit_kept plan state visit known was) ∙ is)))
      ] refl
    where
      moved : (state.told ≡ Some limit) ⊎ (took_count state (suc plan.plugins) ≤ limit) → ((noted plan state visit).told ≡ Some limit) ⊎ (took_count (noted plan state visit) (suc plan.plugins) ≤ limit)
      moved (inl told) = inl (noted-told plan state visit ∙ told)
      moved (inr took) = (let t = noted-took plan state visit (suc plan.plugins) in inr (omega arith))

      same_limit : limit_of plan (progress_of_stages state) ≡ Some limit → (gave (noted plan state visit) (suc plan.plugins) ≤ limit) × (((noted plan state visit).told ≡ Some limit) ⊎ (took_count (noted plan state visit) (suc plan.plugins) ≤ limit))
      same_limit was = (noted-output_within limit was, moved (sound.limited limit was).1)

  -- a stage that has ended is not the one of the visit
  ended-apart : (k : ℕ) (end : StageEnd) → (state.stages k).ended ≡ Some end → k ≢ visit.stage
  ended-apart k end is same =
      let open_ = ok.goes_on in
      let e : (state.stages k).ended ≡ None = ap (λ i. (state.stages i).ended) same ∙ open_ in absurd cc

  -- where the cut is known to be within, it stays so
  noted-cut : (m n : ℕ) → m ≤ n → IsCutWithin plan (progress_of_stages state) m → IsCutWithin plan (progress_of_stages (noted plan state visit)) n
  noted-cut m n le (inl (k, why, by, in_, small)) =
      let apart = ended-apart k by.end by.ended in
      let e = noted-gave_other plan state visit k apart in
      inl (k, why, record { end = by.end; ended = noted-ended_other plan state visit k apart ∙ by.ended; gives = by.gives }, in_, omega arith)
  noted-cut m n le (inr (limit, is, small)) =
      inr (limit, noted-limit_kept plan state visit limit is, omega arith)

  -- what a stage that ends in this visit knows
  new-end : (end : StageEnd) → visit.word.ended ≡ Some end → IsCutWithin plan (progress_of_stages (noted plan state visit)) (gave (noted plan state visit) visit.stage)
  new-end end is =
      elim (cause_of_stage visit.stage end) as (λ o. cause_of_stage visit.stage end ≡ o → IsCutWithin plan (progress_of_stages (noted plan state visit)) (gave (noted plan state visit) visit.stage)) [
        | Some why ↦ (λ gives. inl (visit.stage, why, record { end = end; ended = noted-ended_same plan state visit ∙ is; gives = gives }, ok.is_stage, omega arith))
        | None ↦ (λ gives. follow (ok.follows (is ∙ ap (λ (e : StageEnd). Some e) (follows end gives))))
      ] refl
    where
      follows : (end : StageEnd) → cause_of_stage visit.stage end ≡ None → end ≡ Followed
      follows (Input how) e = absurd cc
      follows Last e = absurd cc
      follows Stop e = absurd cc
      follows (Refuse reason) e = absurd cc
      follows WriteFault e = absurd cc
      follows NoMemory e = absurd cc
      follows Followed e = refl

      before : (k : ℕ) → visit.stage ≡ k → is_before_over (progress_of_stages state) k ≡ true → IsCutWithin plan (progress_of_stages (noted plan state visit)) (gave (noted plan state visit) visit.stage)
      before zero same over = absurd cc
      before (suc j) same over =
          let both = and_parts (is_some (state.stages j).ended) (gave state (suc j) == gave state j) over in
          let level = eqb-true (gave state (suc j)) (gave state j) both.1 in
          let end_ = some_of (state.stages j).ended both.0 in
          let grows : gave state visit.stage ≤ gave (noted plan state visit) visit.stage = noted-gave_grows plan state visit visit.stage in
          let here : gave state (suc j) ≤ gave (noted plan state visit) visit.stage = subst (λ i. gave state i ≤ gave (noted plan state visit) visit.stage) same grows in
          noted-cut (gave state j) (gave (noted plan state visit) visit.stage) (omega arith) (sound.key j end_.0 end_.1)
        where
          some_of : (o : Option StageEnd) → is_some o ≡ true → (end : StageEnd) × (o ≡ Some end)
          some_of None e = absurd cc
          some_of (Some end) e = (end, refl)

      follow : MayFollow plan (progress_of_stages state) visit.stage (gave state visit.stage + length visit.cells) → IsCutWithin plan (progress_of_stages (noted plan state visit)) (gave (noted plan state visit) visit.stage)
      follow (inl over) = before visit.stage refl over
      follow (inr (inl over)) =
          let both = and_parts (nat_le visit.stage plan.plugins) (is_some (state.stages (suc visit.stage)).ended) over in
          let end_ = some_of (state.stages (suc visit.stage)).ended both.1 in
          let a = sound.within (suc visit.stage) in
          let b = sound.handed visit.stage in
          let c = noted-gave_grows plan state visit visit.stage in
          noted-cut (gave state (suc visit.stage)) (gave (noted plan state visit) visit.stage) (omega arith) (sound.key (suc visit.stage) end_.0 end_.1)
        where
          some_of : (o : Option StageEnd) → is_some o ≡ true → (end : StageEnd) × (o ≡ Some end)
          some_of None e = absurd cc
          some_of (Some end) e = (end, refl)
      follow (inr (inr (limit, is_, le))) =
          let e = noted-gave_same plan state visit in
          inr (limit, noted-limit_kept plan state visit limit is_, omega arith)

  noted-key : (k : ℕ) (end : StageEnd) → ((noted plan state visit).stages k).ended ≡ Some end → IsCutWithin plan (progress_of_stages (noted plan state visit)) (gave (noted plan state visit) k)
  noted-key k end is =
      elim (cases_eq k visit.stage) [
        | inl same ↦ subst (λ i. IsCutWithin plan (progress_of_stages (noted plan state visit)) (gave (noted plan state visit) i)) (sym same) (new-end end (sym (noted-ended_same plan state visit) ∙ (ap (λ i. ((noted plan state visit).stages i).ended) (sym same) ∙ is)))
        | inr apart ↦ noted-cut (gave state k) (gave (noted plan state visit) k) (noted-gave_grows plan state visit k) (sound.key k end (sym (noted-ended_other plan state visit k apart) ∙ is))
      ]

  noted-ended_in : (k : ℕ) (end : StageEnd) → ((noted plan state visit).stages k).ended ≡ Some end → k ≤ suc plan.plugins
  noted-ended_in k end is =
      elim (cases_eq k visit.stage) [
        | inl same ↦ (let h = ok.is_stage in omega arith)
        | inr apart ↦ sound.ended_in k end (sym (noted-ended_other plan state visit k apart) ∙ is)
      ]

  pub noted-sound : Sound plan (noted plan state visit)
  noted-sound = record {
    within = noted-within;
    handed = noted-handed;
    bound = (let t = noted-took plan state visit 0 in let e = noted-gave_grows plan state visit (suc plan.plugins) in let h = sound.bound in omega arith);
    places = (let t = noted-took plan state visit 0 in let h = sound.places in rw t h);
    limited = noted-limited;
    told_is = (λ limit is. noted-limit_kept plan state visit limit (sound.told_is limit (sym (noted-told plan state visit) ∙ is)));
    ended_in = noted-ended_in;
    key = noted-key;
  }

-- the second step of a visit
module _ (plan : CorePlan) (state : ChainState) (k : ℕ) where
  pub served-gave : (j : ℕ) → gave (served plan state k) j ≡ gave state j
  served-gave j =
      elim (cases_eq j k) [
        | inl same ↦ subst (λ i. gave (served plan state k) i ≡ gave state i) (sym same) (ap (λ (stage : StageState). length stage.given) (served-same plan state k))
        | inr apart ↦ ap (λ (stage : StageState). length stage.given) (served-other plan state k j apart)
      ]

  pub served-agreed : (j : ℕ) → ((served plan state k).stages j).agreed ≡ (state.stages j).agreed
  served-agreed j =
      elim (cases_eq j k) [
        | inl same ↦ subst (λ i. ((served plan state k).stages i).agreed ≡ (state.stages i).agreed) (sym same) (ap (λ (stage : StageState). stage.agreed) (served-same plan state k))
        | inr apart ↦ ap (λ (stage : StageState). stage.agreed) (served-other plan state k j apart)
      ]

  pub served-ended : (j : ℕ) → ((served plan state k).stages j).ended ≡ (state.stages j).ended
  served-ended j =
      elim (cases_eq j k) [
        | inl same ↦ subst (λ i. ((served plan state k).stages i).ended ≡ (state.stages i).ended) (sym same) (ap (λ (stage : StageState). stage.ended) (served-same plan state k))
        | inr apart ↦ ap (λ (stage : StageState). stage.ended) (served-other plan state k j apart)
      ]

  pub served-took_same : took_count (served plan state k) k ≡ took_count state k + takes_of plan (progress_of_stages state) k
  served-took_same = ap (λ (stage : StageState). stage.taken) (served-same plan state k)

  pub served-took_other : (j : ℕ) → j ≢ k → took_count (served plan state k) j ≡ took_count state j
  served-took_other j apart =
      ap (λ (stage : StageState). stage.taken) (served-other plan state k j apart)

  pub served-limit : limit_of plan (progress_of_stages (served plan state k)) ≡ limit_of plan (progress_of_stages state)
  served-limit =
      ap (λ (f : ℕ → Option ℕ). greatest_if_all (map f (stages_of plan.users))) (λ i u. served-agreed u i)

  -- the second step keeps what holds
  module _ (sound : Sound plan state) where
    served-within : (j : ℕ) → gave (served plan state k) j ≤ took_count (served plan state k) j
    served-within j =
        let g = served-gave j in
        let h = sound.within j in
        elim (cases_eq j k) [
          | inl same ↦ (let t = subst (λ i. took_count (served plan state k) i ≡ took_count state i + takes_of plan (progress_of_stages state) i) (sym same) served-took_same in omega arith)
          | inr apart ↦ (let t = served-took_other j apart in omega arith)
        ]

    served-handed : (j : ℕ) → took_count (served plan state k) (suc j) ≤ gave (served plan state k) j
    served-handed j =
        let g = served-gave j in
        let h = sound.handed j in
        elim (cases_eq (suc j) k) [
          | inl same ↦ (let t = subst (λ i. took_count (served plan state k) i ≡ took_count state i + takes_of plan (progress_of_stages state) i) (sym same) served-took_same in omega arith)
          | inr apart ↦ (let t = served-took_other (suc j) apart in omega arith)
        ]

    served-input : (took_count (served plan state k) 0 ≤ gave (served plan state k) (suc plan.plugins) + plan.buffer) × (took_count (served plan state k) 0 ≤ POSITION_LIMIT)
    served-input =
        let g = served-gave (suc plan.plugins) in
        let h = sound.bound in
        let h' = sound.places in
        elim (cases_eq 0 k) [
          | inl same ↦ (let t = subst (λ i. took_count (served plan state k) i ≡ took_count state i + takes_of plan (progress_of_stages state) i) (sym same) served-took_same in input_taken _ _ _ _ _ _ _ h h' t g)
          | inr apart ↦ (let t = served-took_other 0 apart in (omega arith, rw t h'))
        ]
      where
        input_taken : (taken taken' given given' buffer most limit : ℕ) → taken ≤ given + buffer → taken ≤ limit → taken' ≡ taken + min most (min (given + buffer) limit - taken) → given' ≡ given → (taken' ≤ given' + buffer) × (taken' ≤ limit)
        input_taken taken taken' given given' buffer most limit a b c d = (omega arith, omega arith)

    served-limited : (limit : ℕ) → limit_of plan (progress_of_stages (served plan state k)) ≡ Some limit → (gave (served plan state k) (suc plan.plugins) ≤ limit) × (((served plan state k).told ≡ Some limit) ⊎ (took_count (served plan state k) (suc plan.plugins) ≤ limit))
    served-limited limit is =
        let was : limit_of plan (progress_of_stages state) ≡ Some limit = sym served-limit ∙ is in
        let g = served-gave (suc plan.plugins) in
        let h : gave state (suc plan.plugins) ≤ limit = (sound.limited limit was).0 in (
          omega arith,
          elim (cases_eq k (suc plan.plugins)) [
            | inl same ↦ inl (served-told_output plan state k same ∙ was)
            | inr apart ↦ moved apart (sound.limited limit was).1
          ],
        )
      where
        moved : k ≢ suc plan.plugins → (state.told ≡ Some limit) ⊎ (took_count state (suc plan.plugins) ≤ limit) → ((served plan state k).told ≡ Some limit) ⊎ (took_count (served plan state k) (suc plan.plugins) ≤ limit)
        moved apart (inl told) = inl (served-told_other plan state k apart ∙ told)
        moved apart (inr took) =
            let t = served-took_other (suc plan.plugins) (λ e. apart (sym e)) in inr (omega arith)

    served-told_is : (limit : ℕ) → (served plan state k).told ≡ Some limit → limit_of plan (progress_of_stages (served plan state k)) ≡ Some limit
    served-told_is limit is =
        elim (cases_eq k (suc plan.plugins)) [
          | inl same ↦ served-limit ∙ (sym (served-told_output plan state k same) ∙ is)
          | inr apart ↦ served-limit ∙ sound.told_is limit (sym (served-told_other plan state k apart) ∙ is)
        ]

    served-cut : (m n : ℕ) → m ≤ n → IsCutWithin plan (progress_of_stages state) m → IsCutWithin plan (progress_of_stages (served plan state k)) n
    served-cut m n le (inl (j, why, by, in_, small)) =
        let g = served-gave j in
        inl (j, why, record { end = by.end; ended = served-ended j ∙ by.ended; gives = by.gives }, in_, omega arith)
    served-cut m n le (inr (limit, is, small)) = inr (limit, served-limit ∙ is, omega arith)

    pub served-sound : Sound plan (served plan state k)
    served-sound = record {
      within = served-within;
      handed = served-handed;
      bound = served-input.0;
      places = served-input.1;
      limited = served-limited;
      told_is = served-told_is;
      ended_in = (λ j end is. sound.ended_in j end (sym (served-ended j) ∙ is));
      key = (λ j end is. served-cut (gave state j) (gave (served plan state k) j) (let g = served-gave j in omega arith) (sound.key j end (sym (served-ended j) ∙ is)));
    }

pub start-sound : (plan : CorePlan) → AreUsers plan → Sound plan start
start-sound plan users = record {
  within = (λ k. omega arith);
  handed = (λ k. omega arith);
  bound = omega arith;
  places = omega arith;
  limited = (λ limit is. (omega arith, inr (omega arith)));
  told_is = (λ limit is. absurd cc);
  ended_in = (λ k end is. absurd cc);
  key = (λ k end is. absurd cc);
}

pub visited-sound : (plan : CorePlan) → AreUsers plan → (state : ChainState) (visit : Visit) → Sound plan state → Allowed plan state visit → Sound plan (visited plan state visit)
unfolding visited
visited-sound plan users state visit sound ok =
    served-sound plan (noted plan state visit) visit.stage (noted-sound plan users state visit sound ok)

-- every state of a run
pub run-sound : (plan : CorePlan) → AreUsers plan → (visits : List Visit) → ChainRun plan visits → Sound plan (state_after plan visits)
unfolding state_after
run-sound plan users [] run = start-sound plan users
run-sound plan users (visit ∷ earlier) run =
    visited-sound plan users (state_after plan earlier) visit (run-sound plan users earlier run.0) run.1
