-- The close of a run whose stages do as their lists say: the cut and the cause are the pure ones, or those of
-- a fault that may end the chain.
use Rattle.std.proofs.Common.{◌≡◌, ◌≢◌, ◌⊎◌, inl, inr, ℕ, zero, suc, ◌<◌, ◌≤◌, List, [], ◌∷◌, ◌++◌, length, take, drop, Bool, true, false, cond, Option, Some, None, refl, ap, sym, ◌∙◌, subst, arith}
use Rattle.std.specs.Prelude.{is_some, unwrap_or, find, IsTrue}
use Rattle.std.specs.Option.{option_or, option_and_then}
use Rattle.std.specs.List.{AllByRecursion, last_or}
use Rattle.std.proofs.lemmas.Bool.{cases_eq, cases_Bool, cases_lt, cond-true, cond-false, eqb-true, eq-eqb, ne_eqb}
use Rattle.std.proofs.lemmas.List.{take-append-drop, length-take-le}
use Rattle.ts_packet.specs.declared.cell.Cell.{Cell}
use Rattle.chain_model.specs.declared.cause.Cause.{Cause}
use Rattle.chain_model.specs.declared.cause.Cause.TheVariants as cause
use Rattle.chain_model.specs.declared.input_end.InputEnd.TheVariants.{End, Sync, ReadFault, TooLong}
use Rattle.chain_model.specs.Prefix.{IsPrefix}
use Rattle.chain_model.specs.PluginRule.{PluginRule, passing_rule}
use Rattle.chain_model.specs.Apply.{OwnEnd, input_over, last_passed, stopped, refused, StageList, apply}
use Rattle.chain_model.specs.StageLists.{rule_after, stage_list, end_list}
use Rattle.chain_model.specs.Joint.{agreement_of, agreement_at, joint_position}
use Rattle.chain_model.specs.Cut.{Ending, cut_of, lesser_end, is_at, cause_of_end, is_until, causes_at, first_cause, cause_among, ending_of, endings_to, endings_of, cause_of, is_fault, IsValidFault, IsPureClose}
use Rattle.chain_model.proofs.ApplyLaws.{apply-length, apply-before, apply-passes}
use Rattle.chain_model.proofs.AgreementLaws.{agreement_of-more, agreement_of-first}
use Rattle.chain_model.proofs.GreatestLaws.{IsKnownWithin, IsKept, greatest-all, greatest-kept}
use Rattle.chain_core.specs.declared.core_plan.CorePlan.{CorePlan}
use Rattle.chain_core.specs.declared.stage_end.StageEnd.{StageEnd}
use Rattle.chain_core.specs.declared.stage_end.StageEnd.TheVariants.{Input, Last, Stop, Refuse, WriteFault, NoMemory, Followed}
use Rattle.chain_core.specs.Stages.{has_stage, stages_of}
use Rattle.chain_core.specs.Numbers.{StagesProgress, limit_of}
use Rattle.chain_core.specs.Machine.{ChainState, progress_of_stages}
use Rattle.chain_core.specs.ChainRun.{AllEnded}
use Rattle.chain_core.specs.Keeps.{IsEndOf, EndsAs}
use Rattle.chain_core.specs.Close.{cause_of_stage, ending_with, ending_of_progress, told_endings, least_among, cut_at_close, cause_at_close}
use Rattle.chain_core.specs.EveryOrder.{EndsBy, IsCutWithin, IsToldCause, AtClose}
use Rattle.chain_core.proofs.Facts.{falls, all_both, prefix-length, prefix-whole, prefix-take, prefix-is_take}
use Rattle.chain_core.proofs.Members.{stages-have}
use Rattle.chain_core.proofs.Soundness.{gave, AreUsers, Sound, gave-falls}
use Rattle.chain_core.proofs.ListsKept.{Faithful}
use Rattle.chain_core.proofs.Endings.{up_to, SomeWithin, least-is, up_to-all, up_to-some, until_at, last_at, until_at-more, last_at-more, until_at-same, until_at-some, until_at-none, last_at-is, causes_at-here, causes_at-elsewhere}

-- ---- the lists of the chain

rule_after-past : (rules : List PluginRule) → rule_after rules (length rules) ≡ passing_rule
rule_after-past [] = refl
rule_after-past (rule ∷ rules) = rule_after-past rules

-- past the last plugin every cell passes
pub past-passes : (rules : List PluginRule) (cells : List Cell) → ((apply (rule_after rules (length rules)) cells).cells ≡ cells) × ((apply (rule_after rules (length rules)) cells).ended ≡ None)
past-passes rules cells =
    let s = apply-passes cells in (
      ap (λ (rule : PluginRule). (apply rule cells).cells) (rule_after-past rules) ∙ s.0,
      ap (λ (rule : PluginRule). (apply rule cells).ended) (rule_after-past rules) ∙ s.1,
    )

-- what reaches the output passes it
module _ (plan : CorePlan) (rules : List PluginRule) (input : StageList) (plugins : length rules ≡ plan.plugins) where
  behind : rule_after rules plan.plugins ≡ passing_rule
  behind = ap (rule_after rules) (sym plugins) ∙ rule_after-past rules

  pub output-cells : (stage_list rules input (suc plan.plugins)).cells ≡ (end_list rules input).cells
  output-cells =
      ap (λ (rule : PluginRule). (apply rule (stage_list rules input plan.plugins).cells).cells) behind ∙ ((apply-passes (stage_list rules input plan.plugins).cells).0 ∙ ap (λ k. (stage_list rules input k).cells) (sym plugins))

  pub output-ended : (stage_list rules input (suc plan.plugins)).ended ≡ None
  output-ended =
      ap (λ (rule : PluginRule). (apply rule (stage_list rules input plan.plugins).cells).ended) behind ∙ (apply-passes (stage_list rules input plan.plugins).cells).1

  -- the list that reaches the output is no longer than another
  pub end-length : (k : ℕ) → k ≤ plan.plugins → length (end_list rules input).cells ≤ length (stage_list rules input k).cells
  end-length k le =
      lists-fall (length rules) k (omega arith)
    where
      lists-fall : (j k : ℕ) → k ≤ j → length (stage_list rules input j).cells ≤ length (stage_list rules input k).cells
      lists-fall j k le' =
          falls (λ i. length (stage_list rules input i).cells) (λ i. apply-length (rule_after rules i) (stage_list rules input i).cells) j k le'

pub list-falls : (rules : List PluginRule) (input : StageList) (j k : ℕ) → k ≤ j → length (stage_list rules input j).cells ≤ length (stage_list rules input k).cells
list-falls rules input j k le =
    falls (λ i. length (stage_list rules input i).cells) (λ i. apply-length (rule_after rules i) (stage_list rules input i).cells) j k le

-- ---- the joint position and the limit

module _ (plan : CorePlan) (rules : List PluginRule) (input : StageList) (state : ChainState) (users : AreUsers plan) (faithful : Faithful plan rules input state) where
  known : ℕ → Option ℕ
  known u = (state.stages u).agreed

  agreed-true : (u : ℕ) → (1 ≤ u) × (u ≤ plan.plugins) → has_stage plan.users u ≡ true → IsKept (λ u. (state.stages u).agreed) (agreement_at rules input) u
  agreed-true zero user has n is = absurd (omega (arith, user.0))
  agreed-true (suc j) user has n is =
      let l = (stage_list rules input j).cells in
      let m = gave state (suc j) in
      ap (agreement_of (rule_after rules j)) (sym (take-append-drop m l)) ∙ agreement_of-more (rule_after rules j) (take m l) (drop m l) n (sym (faithful.agreed j has) ∙ is)

  -- the limit, once known, is the joint position
  pub limit-joint : (limit : ℕ) → limit_of plan (progress_of_stages state) ≡ Some limit → joint_position rules input (stages_of plan.users) ≡ Some limit
  limit-joint limit is =
      greatest-kept (λ u. (state.stages u).agreed) (agreement_at rules input) (stages_of plan.users) limit
      (all_both (λ u. (1 ≤ u) × (u ≤ plan.plugins)) (λ u. has_stage plan.users u ≡ true) (IsKept (λ u. (state.stages u).agreed) (agreement_at rules input)) agreed-true (stages_of plan.users) users (stages-have plan.users))
      is

  agreed-known : (c : ℕ) → ((k : ℕ) → k ≤ plan.plugins → c ≤ gave state k) → (joint : ℕ) → joint ≤ c → (u : ℕ) → ((1 ≤ u) × (u ≤ plan.plugins)) × (has_stage plan.users u ≡ true) → IsKnownWithin (agreement_at rules input) joint u → IsKept (agreement_at rules input) (λ u. (state.stages u).agreed) u
  agreed-known c reached joint le zero user within n is = absurd (omega (arith, user.0.0))
  agreed-known c reached joint le (suc j) user within n is =
      let l = (stage_list rules input j).cells in
      let m = gave state (suc j) in
      let same : within.0 ≡ n = (let e = within.1 in cc) in
      let far : c ≤ m = reached (suc j) user.0.1 in
      let long : m ≤ length l = fits in
      let whole : agreement_of (rule_after rules j) (take m l ++ drop m l) ≡ Some n = ap (agreement_of (rule_after rules j)) (take-append-drop m l) ∙ is in
      faithful.agreed j user.1 ∙ agreement_of-first (rule_after rules j) (take m l) (drop m l) n whole (let size = length-take-le m l long in let small = within.2 in omega arith)
    where
      fits : gave state (suc j) ≤ length (stage_list rules input j).cells
      fits =
          let a = prefix-length (state.stages (suc j)).given (stage_list rules input (suc j)).cells (faithful.lists (suc j)) in
          let b = apply-length (rule_after rules j) (stage_list rules input j).cells in omega arith

  -- a joint position that every stage has reached is the limit
  pub joint-limit : (c : ℕ) → ((k : ℕ) → k ≤ plan.plugins → c ≤ gave state k) → (joint : ℕ) → joint_position rules input (stages_of plan.users) ≡ Some joint → joint ≤ c → limit_of plan (progress_of_stages state) ≡ Some joint
  joint-limit c reached joint is le =
      greatest-kept (agreement_at rules input) (λ u. (state.stages u).agreed) (stages_of plan.users) joint
      (all_both (λ u. ((1 ≤ u) × (u ≤ plan.plugins)) × (has_stage plan.users u ≡ true)) (IsKnownWithin (agreement_at rules input) joint) (IsKept (agreement_at rules input) (λ u. (state.stages u).agreed)) (agreed-known c reached joint le) (stages_of plan.users)
      (all_both (λ u. (1 ≤ u) × (u ≤ plan.plugins)) (λ u. has_stage plan.users u ≡ true) (λ u. ((1 ≤ u) × (u ≤ plan.plugins)) × (has_stage plan.users u ≡ true)) (λ u a b. (a, b)) (stages_of plan.users) users (stages-have plan.users))
      (greatest-all (agreement_at rules input) (stages_of plan.users) joint is))
      is

-- ---- the endings reported, and those of the lists

-- the ending of a stage that ended by itself
ended-ending : (progress : StagesProgress) (k : ℕ) (why : Cause) → EndsBy progress k why → ending_of_progress k (progress k) ≡ record { at = (progress k).given; cause = why } ∷ []
ended-ending progress k why by =
    ap (λ (o : Option Cause). ending_with (progress k).given o) (ap (λ (o : Option StageEnd). option_and_then (cause_of_stage k) o) by.ended ∙ by.gives)

told-rows : (progress : StagesProgress) (n : ℕ) → told_endings progress n ≡ up_to (λ k. ending_of_progress k (progress k)) n
told-rows progress zero = refl
told-rows progress (suc j) =
    ap (λ (row : List Ending). row ++ ending_of_progress (suc j) (progress (suc j))) (told-rows progress j)

pure-rows : (rules : List PluginRule) (input : StageList) (n : ℕ) → endings_to rules input n ≡ up_to (λ k. ending_of k (stage_list rules input k)) n
pure-rows rules input zero = refl
pure-rows rules input (suc j) =
    ap (λ (row : List Ending). row ++ ending_of (suc j) (stage_list rules input (suc j))) (pure-rows rules input j)

-- how a stage is at a place: it ended by itself there, or no cause of it is there
told-cases : (progress : StagesProgress) (c k : ℕ) → (causes_at c (ending_of_progress k (progress k)) ≡ []) ⊎ ((why : Cause) × EndsBy progress k why × ((progress k).given ≡ c))
told-cases progress c k =
    elim (progress k).ended as (λ o. (progress k).ended ≡ o → (causes_at c (ending_with (progress k).given (option_and_then (cause_of_stage k) o)) ≡ []) ⊎ ((why : Cause) × EndsBy progress k why × ((progress k).given ≡ c))) [
      | None ↦ (λ is. inl refl)
      | Some end ↦ (λ is. by_cause end is)
    ] refl
  where
    by_cause : (end : StageEnd) → (progress k).ended ≡ Some end → (causes_at c (ending_with (progress k).given (cause_of_stage k end)) ≡ []) ⊎ ((why : Cause) × EndsBy progress k why × ((progress k).given ≡ c))
    by_cause end is =
        elim (cause_of_stage k end) as (λ o. cause_of_stage k end ≡ o → (causes_at c (ending_with (progress k).given o) ≡ []) ⊎ ((why : Cause) × EndsBy progress k why × ((progress k).given ≡ c))) [
          | None ↦ (λ gives. inl refl)
          | Some why ↦ (λ gives. elim (cases_eq (progress k).given c) [
            | inl same ↦ inr (why, record { end = end; ended = is; gives = gives }, same)
            | inr apart ↦ inl (causes_at-elsewhere c (progress k).given why apart)
          ])
        ] refl

told-here : (progress : StagesProgress) (c k : ℕ) (why : Cause) → EndsBy progress k why → (progress k).given ≡ c → causes_at c (ending_of_progress k (progress k)) ≡ why ∷ []
told-here progress c k why by at =
    ap (causes_at c) (ended-ending progress k why by) ∙ causes_at-here c (progress k).given why at

-- the same of a list
list-cases : (c k : ℕ) (list : StageList) → (causes_at c (ending_of k list) ≡ []) ⊎ ((own : OwnEnd) × (list.ended ≡ Some own) × (length list.cells ≡ c))
list-cases c k list =
    elim list.ended as (λ o. list.ended ≡ o → (causes_at c (elim o [ None ↦ [] | Some how ↦ record { at = length list.cells; cause = cause_of_end k how } ∷ [] ]) ≡ []) ⊎ ((own : OwnEnd) × (list.ended ≡ Some own) × (length list.cells ≡ c))) [
      | None ↦ (λ is. inl refl)
      | Some own ↦ (λ is. elim (cases_eq (length list.cells) c) [
        | inl same ↦ inr (own, is, same)
        | inr apart ↦ inl (causes_at-elsewhere c (length list.cells) (cause_of_end k own) apart)
      ])
    ] refl

list-here : (c k : ℕ) (list : StageList) (own : OwnEnd) → list.ended ≡ Some own → length list.cells ≡ c → causes_at c (ending_of k list) ≡ cause_of_end k own ∷ []
list-here c k list own is at =
    ap (λ (o : Option OwnEnd). causes_at c (elim o [ None ↦ [] | Some how ↦ record { at = length list.cells; cause = cause_of_end k how } ∷ [] ])) is ∙ causes_at-here c (length list.cells) (cause_of_end k own) at

-- ---- a last packet

find-one : (why u : Cause) (b : Bool) → is_until why ≡ b → cond b (Some why) None ≡ Some u → (is_until why ≡ true) × (why ≡ u)
find-one why u true is e = (is, cc)
find-one why u false is e = absurd cc

until-last : (k : ℕ) (end : StageEnd) (why : Cause) → cause_of_stage k end ≡ Some why → is_until why ≡ true → (end ≡ Last) × (why ≡ cause.Until k)
until-last k (Input how) why e h =
    let w : cause.Input how ≡ why = cc in let f : false ≡ true = ap is_until w ∙ h in absurd cc
until-last k Last why e h = (refl, cc)
until-last k Stop why e h =
    let w : cause.Stop k ≡ why = cc in let f : false ≡ true = ap is_until w ∙ h in absurd cc
until-last k (Refuse reason) why e h =
    let w : cause.Refuse k reason ≡ why = cc in let f : false ≡ true = ap is_until w ∙ h in absurd cc
until-last k WriteFault why e h =
    let w : cause.WriteFault ≡ why = cc in let f : false ≡ true = ap is_until w ∙ h in absurd cc
until-last k NoMemory why e h =
    let w : cause.NoMemory k ≡ why = cc in let f : false ≡ true = ap is_until w ∙ h in absurd cc
until-last k Followed why e h = absurd cc

until-passed : (k : ℕ) (own : OwnEnd) → is_until (cause_of_end k own) ≡ true → own ≡ last_passed
until-passed k (input_over how) h = absurd cc
until-passed k last_passed h = refl
until-passed k stopped h = absurd cc
until-passed k (refused reason) h = absurd cc

-- a stage that reported a last packet at the place
told-until : (progress : StagesProgress) (c k : ℕ) (u : Cause) → until_at c (ending_of_progress k (progress k)) ≡ Some u → EndsBy progress k u × ((progress k).ended ≡ Some Last) × ((progress k).given ≡ c) × (u ≡ cause.Until k)
told-until progress c k u e =
    elim (told-cases progress c k) [
      | inl none ↦ (let n : until_at c (ending_of_progress k (progress k)) ≡ None = ap (find is_until) none in absurd cc)
      | inr (why, by, at) ↦ (let one = find-one why u (is_until why) refl (sym (ap (find is_until) (told-here progress c k why by at)) ∙ e) in let last = until-last k by.end why by.gives one.0 in (subst (λ w. EndsBy progress k w) one.1 by, by.ended ∙ ap (λ (end : StageEnd). Some end) last.0, at, sym one.1 ∙ last.1))
    ]

-- a list that ends after a last packet at the place
list-until : (c k : ℕ) (list : StageList) (u : Cause) → until_at c (ending_of k list) ≡ Some u → (list.ended ≡ Some last_passed) × (length list.cells ≡ c) × (u ≡ cause.Until k)
list-until c k list u e =
    elim (list-cases c k list) [
      | inl none ↦ (let n : until_at c (ending_of k list) ≡ None = ap (find is_until) none in absurd cc)
      | inr (own, is, at) ↦ (let one = find-one (cause_of_end k own) u (is_until (cause_of_end k own)) refl (sym (ap (find is_until) (list-here c k list own is at)) ∙ e) in let last : own ≡ last_passed = until-passed k own one.0 in (is ∙ ap (λ (o : OwnEnd). Some o) last, at, sym one.1 ∙ ap (cause_of_end k) last))
    ]

told-until_at : (progress : StagesProgress) (c k : ℕ) → (progress k).ended ≡ Some Last → (progress k).given ≡ c → until_at c (ending_of_progress k (progress k)) ≡ Some (cause.Until k)
told-until_at progress c k is at =
    ap (find is_until) (told-here progress c k (cause.Until k) (record { end = Last; ended = is; gives = refl }) at)

list-until_at : (c k : ℕ) (list : StageList) → list.ended ≡ Some last_passed → length list.cells ≡ c → until_at c (ending_of k list) ≡ Some (cause.Until k)
list-until_at c k list is at = ap (find is_until) (list-here c k list last_passed is at)

-- ---- ends of a list, and faults

own-or-fault : (plugins k : ℕ) (list : StageList) (given : List Cell) (end : StageEnd) (why : Cause) → EndsAs plugins k list given end → cause_of_stage k end ≡ Some why → ((own : OwnEnd) × IsEndOf list given own × (why ≡ cause_of_end k own)) ⊎ IsTrue (is_fault why)
own-or-fault plugins k list given (Input (End left)) why e gives =
    inl (input_over (End left), e, cc)
own-or-fault plugins k list given (Input (Sync packet)) why e gives =
    inl (input_over (Sync packet), e, cc)
own-or-fault plugins k list given (Input ReadFault) why e gives =
    (let w : cause.Input ReadFault ≡ why = cc in inr (sym (ap is_fault w)))
own-or-fault plugins k list given (Input TooLong) why e gives = inl (input_over TooLong, e, cc)
own-or-fault plugins k list given Last why e gives = inl (last_passed, e, cc)
own-or-fault plugins k list given Stop why e gives = inl (stopped, e, cc)
own-or-fault plugins k list given (Refuse reason) why e gives = inl (refused reason, e, cc)
own-or-fault plugins k list given WriteFault why e gives =
    (let w : cause.WriteFault ≡ why = cc in inr (sym (ap is_fault w)))
own-or-fault plugins k list given NoMemory why e gives =
    (let w : cause.NoMemory k ≡ why = cc in inr (sym (ap is_fault w)))
own-or-fault plugins k list given Followed why e gives = absurd cc

-- ---- the close

is_at-some : (o : Option ℕ) (c : ℕ) → is_at o c ≡ true → o ≡ Some c
is_at-some None c e = absurd cc
is_at-some (Some m) c e = ap (λ n. Some n) (eqb-true m c e)

is_at-not : (o : Option ℕ) (c : ℕ) → (o ≡ Some c → ⊥) → is_at o c ≡ false
is_at-not None c not_ = refl
is_at-not (Some m) c not_ = ne_eqb m c (λ e. not_ (ap (λ n. Some n) e))

-- the greatest stage that ended by itself at the place
last-told : (progress : StagesProgress) (c n k : ℕ) (why : Cause) → k ≤ n → EndsBy progress k why → (progress k).given ≡ c → (j : ℕ) × (last : Cause) × (j ≤ n) × EndsBy progress j last × ((progress j).given ≡ c) × (last_at c (up_to (λ i. ending_of_progress i (progress i)) n) ≡ Some last)
last-told progress c zero k why le by at =
    let z : k ≡ 0 = omega arith in
    (k, why, le, by, at, ap (λ (causes : List Cause). last_or None causes) (ap (λ i. causes_at c (ending_of_progress i (progress i))) (sym z) ∙ told-here progress c k why by at))
last-told progress c (suc n) k why le by at =
    let row : ℕ → List Ending = λ i. ending_of_progress i (progress i) in
    elim (told-cases progress c (suc n)) [
      | inr (last, by', at') ↦ (suc n, last, omega arith, by', at', last_at-more c row n ∙ ap (λ (causes : List Cause). last_or (last_at c (up_to row n)) causes) (told-here progress c (suc n) last by' at'))
      | inl none ↦ (let r = last-told progress c n k why (lower none) by at in (r.0, r.1, omega (arith, r.2), r.3, r.4, last_at-more c row n ∙ (ap (λ (causes : List Cause). last_or (last_at c (up_to row n)) causes) none ∙ r.5)))
    ]
  where
    lower : causes_at c (ending_of_progress (suc n) (progress (suc n))) ≡ [] → k ≤ n
    lower none =
        elim (cases_eq k (suc n)) [
          | inl same ↦ (let h : causes_at c (ending_of_progress (suc n) (progress (suc n))) ≡ why ∷ [] = ap (λ i. causes_at c (ending_of_progress i (progress i))) (sym same) ∙ told-here progress c k why by at in absurd cc)
          | inr apart ↦ omega arith
        ]

module _ (plan : CorePlan) (rules : List PluginRule) (input : StageList) (state : ChainState) (users : AreUsers plan) (plugins : length rules ≡ plan.plugins) (sound : Sound plan state) (faithful : Faithful plan rules input state) where
  -- what the output gave is a first part of the list that reaches it
  pub output-prefix : IsPrefix (state.stages (suc plan.plugins)).given (end_list rules input).cells
  output-prefix =
      subst (λ (cells : List Cell). IsPrefix (state.stages (suc plan.plugins)).given cells) (output-cells plan rules input plugins) (faithful.lists (suc plan.plugins))

  module _ (all_ended : AllEnded plan (progress_of_stages state)) where
    abbrev c : ℕ
    c = gave state (suc plan.plugins)

    reached : (k : ℕ) → k ≤ suc plan.plugins → c ≤ gave state k
    reached k le = gave-falls plan state sound (suc plan.plugins) k le

    reached-plugins : (k : ℕ) → k ≤ plan.plugins → c ≤ gave state k
    reached-plugins k le = reached k (omega arith)

    cut-within : IsCutWithin plan (progress_of_stages state) c
    cut-within =
        elim (state.stages (suc plan.plugins)).ended as (λ o. (state.stages (suc plan.plugins)).ended ≡ o → IsCutWithin plan (progress_of_stages state) c) [
          | None ↦ (λ is. (let e : true ≡ is_some (state.stages (suc plan.plugins)).ended = sym (all_ended (suc plan.plugins) (omega arith)) in let n : is_some (state.stages (suc plan.plugins)).ended ≡ false = ap (λ (o : Option StageEnd). is_some o) is in absurd cc))
          | Some end ↦ (λ is. sound.key (suc plan.plugins) end is)
        ] refl

    limit-above : (limit : ℕ) → limit_of plan (progress_of_stages state) ≡ Some limit → c ≤ limit
    limit-above limit is = (sound.limited limit is).0

    abbrev row : ℕ → List Ending
    row k = ending_of_progress k (progress_of_stages state k)

    all-above : AllByRecursion (λ (e : Ending). c ≤ e.at) (up_to row (suc plan.plugins))
    all-above =
        up_to-all (λ (e : Ending). c ≤ e.at) row (suc plan.plugins) (λ k le. one k (reached k le))
      where
        with-one : (m at : ℕ) (o : Option Cause) → m ≤ at → AllByRecursion (λ (e : Ending). m ≤ e.at) (ending_with at o)
        with-one m at None le = tt
        with-one m at (Some why) le = (le, tt)

        one : (k : ℕ) → c ≤ gave state k → AllByRecursion (λ (e : Ending). c ≤ e.at) (row k)
        one k le =
            with-one c (gave state k) (option_and_then (cause_of_stage k) (state.stages k).ended) le

    some-reach : ((x : ℕ) × (limit_of plan (progress_of_stages state) ≡ Some x) × (x ≤ c)) ⊎ SomeWithin c (up_to row (suc plan.plugins))
    some-reach = from cut-within
      where
        from : IsCutWithin plan (progress_of_stages state) c → ((x : ℕ) × (limit_of plan (progress_of_stages state) ≡ Some x) × (x ≤ c)) ⊎ SomeWithin c (up_to row (suc plan.plugins))
        from (inl (k, why, by, in_, small)) =
            inr (up_to-some c row (suc plan.plugins) k in_ (subst (λ (endings : List Ending). SomeWithin c endings) (sym (ended-ending (progress_of_stages state) k why by)) (inl small)))
        from (inr known) = inl known

    -- the cut is what the output gave
    cut-is : cut_at_close plan (progress_of_stages state) ≡ c
    cut-is =
        ap (λ (o : Option ℕ). unwrap_or o 0) (ap (least_among (limit_of plan (progress_of_stages state))) (told-rows (progress_of_stages state) (suc plan.plugins)) ∙ least-is c (limit_of plan (progress_of_stages state)) (up_to row (suc plan.plugins)) limit-above all-above some-reach)

    joint-above : (joint : ℕ) → joint_position rules input (stages_of plan.users) ≡ Some joint → c ≤ joint
    joint-above joint is =
        elim (cases_lt joint c) [
          | inl less ↦ limit-above joint (joint-limit plan rules input state users faithful c reached-plugins joint is (omega arith))
          | inr le ↦ le
        ]

    cells-above : c ≤ length (end_list rules input).cells
    cells-above =
        prefix-length (state.stages (suc plan.plugins)).given (end_list rules input).cells output-prefix

    cut-above : c ≤ cut_of rules input (stages_of plan.users)
    cut-above =
        elim (joint_position rules input (stages_of plan.users)) as (λ o. joint_position rules input (stages_of plan.users) ≡ o → c ≤ lesser_end (length (end_list rules input).cells) o) [
          | None ↦ (λ is. cells-above)
          | Some joint ↦ (λ is. (let a = joint-above joint is in let b = cells-above in omega arith))
        ] refl

    cut-below : cut_of rules input (stages_of plan.users) ≤ length (end_list rules input).cells
    cut-below =
        elim (joint_position rules input (stages_of plan.users)) as (λ o. lesser_end (length (end_list rules input).cells) o ≤ length (end_list rules input).cells) [
          | None ↦ omega arith
          | Some joint ↦ omega arith
        ]

    -- where a list ends at the cut, the pure cut is there
    cut-pure : (k : ℕ) → k ≤ plan.plugins → length (stage_list rules input k).cells ≡ c → c ≡ cut_of rules input (stages_of plan.users)
    cut-pure k le at =
        let e = end-length plan rules input plugins k le in
        let a = cut-above in let b = cut-below in omega arith

    -- a cause, and what is claimed of it
    abbrev Verdict : Cause → Type 0
    Verdict why =
        (IsPureClose rules input (stages_of plan.users) c why ⊎ IsValidFault rules input (stages_of plan.users) c why)
        × IsToldCause plan (progress_of_stages state) c why

    abbrev pure_row : ℕ → List Ending
    pure_row k = ending_of k (stage_list rules input k)

    -- joint termination at the cut
    joint-verdict : limit_of plan (progress_of_stages state) ≡ Some c → Verdict cause.Joint
    joint-verdict is =
        let joint = limit-joint plan rules input state users faithful c is in
        let cut : c ≡ cut_of rules input (stages_of plan.users) = (let a = cells-above in omega arith) ∙ ap (lesser_end (length (end_list rules input).cells)) (sym joint) in
        let at : is_at (joint_position rules input (stages_of plan.users)) (cut_of rules input (stages_of plan.users)) ≡ true = ap (λ (o : Option ℕ). is_at o (cut_of rules input (stages_of plan.users))) joint ∙ eq-eqb c (cut_of rules input (stages_of plan.users)) cut in (
          inl (cut, sym (cond-true (is_at (joint_position rules input (stages_of plan.users)) (cut_of rules input (stages_of plan.users))) cause.Joint (unwrap_or (first_cause (causes_at (cut_of rules input (stages_of plan.users)) (endings_of rules input))) cause.Joint) at)),
          inl (refl, is),
        )

    -- the first last packet at the cut is the same by the words and by the lists
    one-until : (k : ℕ) → k ≤ plan.plugins → until_at c (row k) ≡ until_at c (pure_row k)
    one-until k le =
        elim (until_at c (row k)) as (λ o. until_at c (row k) ≡ o → o ≡ until_at c (pure_row k)) [
          | Some u ↦ (λ is. from_told u (told-until (progress_of_stages state) c k u is))
          | None ↦ (λ is. elim (until_at c (pure_row k)) as (λ o. until_at c (pure_row k) ≡ o → None ≡ o) [
            | None ↦ (λ none. refl)
            | Some u ↦ (λ some. (let t = from_list u (list-until c k (stage_list rules input k) u some) in absurd cc))
          ] refl)
        ] refl
      where
        from_told : (u : Cause) → EndsBy (progress_of_stages state) k u × ((state.stages k).ended ≡ Some Last) × (gave state k ≡ c) × (u ≡ cause.Until k) → Some u ≡ until_at c (pure_row k)
        from_told u (by, is, at, w) =
            let e = faithful.ends k Last is in
            ap (λ (x : Cause). Some x) w ∙ sym (list-until_at c k (stage_list rules input k) e.ended (ap length (sym e.whole) ∙ at))

        from_list : (u : Cause) → ((stage_list rules input k).ended ≡ Some last_passed) × (length (stage_list rules input k).cells ≡ c) × (u ≡ cause.Until k) → until_at c (row k) ≡ Some (cause.Until k)
        from_list u (is, at, w) =
            let far = reached-plugins k le in
            let all = prefix-whole (state.stages k).given (stage_list rules input k).cells (faithful.lists k) (omega arith) in
            told-until_at (progress_of_stages state) c k (faithful.lasts_told k (record { ended = is; whole = all })) (ap length all ∙ at)

    or-none-right : (o : Option Cause) → option_or o None ≡ o
    or-none-right None = refl
    or-none-right (Some x) = refl

    -- the output passes no last packet
    output-until : until_at c (row (suc plan.plugins)) ≡ None
    output-until =
        elim (until_at c (row (suc plan.plugins))) as (λ o. until_at c (row (suc plan.plugins)) ≡ o → o ≡ None) [
          | None ↦ (λ is. refl)
          | Some u ↦ (λ is. (let t = told-until (progress_of_stages state) c (suc plan.plugins) u is in let e = (faithful.ends (suc plan.plugins) Last t.1).ended in let n = output-ended plan rules input plugins in absurd cc))
        ] refl

    same-until : until_at c (up_to row (suc plan.plugins)) ≡ until_at c (up_to pure_row plan.plugins)
    same-until =
        until_at-more c row plan.plugins ∙ (ap (λ (o : Option Cause). option_or (until_at c (up_to row plan.plugins)) o) output-until
        ∙ (or-none-right (until_at c (up_to row plan.plugins)) ∙ until_at-same c row pure_row plan.plugins one-until))

    pure-endings : endings_of rules input ≡ up_to pure_row plan.plugins
    pure-endings =
        pure-rows rules input (length rules) ∙ ap (λ n. up_to pure_row n) plugins

    -- the cause where joint termination is not at the cut
    abbrev chosen : List Ending → Cause
    chosen endings = unwrap_or (option_or (until_at c endings) (last_at c endings)) cause.Joint

    pure-cause : (joint_position rules input (stages_of plan.users) ≡ Some c → ⊥) → c ≡ cut_of rules input (stages_of plan.users) → chosen (up_to pure_row plan.plugins) ≡ cause_of rules input (stages_of plan.users)
    pure-cause not_ cut =
        sym (ap (λ m. cause_among m (joint_position rules input (stages_of plan.users)) (endings_of rules input)) (sym cut)
        ∙ (cond-false (is_at (joint_position rules input (stages_of plan.users)) c) cause.Joint (chosen (endings_of rules input)) (is_at-not (joint_position rules input (stages_of plan.users)) c not_)
        ∙ ap (λ (endings : List Ending). chosen endings) pure-endings))

    joint-not : (limit_of plan (progress_of_stages state) ≡ Some c → ⊥) → joint_position rules input (stages_of plan.users) ≡ Some c → ⊥
    joint-not not_ joint =
        not_ (joint-limit plan rules input state users faithful c reached-plugins c joint (omega arith))

    -- a last packet at the cut
    until-verdict : (limit_of plan (progress_of_stages state) ≡ Some c → ⊥) → (u : Cause) → until_at c (up_to pure_row plan.plugins) ≡ Some u → Verdict (chosen (up_to row (suc plan.plugins)))
    until-verdict not_ u is =
        let told : until_at c (up_to row (suc plan.plugins)) ≡ Some u = same-until ∙ is in
        let s = until_at-some c pure_row plan.plugins u is in
        let l = list-until c s.0 (stage_list rules input s.0) u s.2 in
        let cut = cut-pure s.0 s.1 l.1 in
        let why : chosen (up_to row (suc plan.plugins)) ≡ u = ap (λ (o : Option Cause). unwrap_or (option_or o (last_at c (up_to row (suc plan.plugins)))) cause.Joint) told in
        let why' : chosen (up_to pure_row plan.plugins) ≡ u = ap (λ (o : Option Cause). unwrap_or (option_or o (last_at c (up_to pure_row plan.plugins))) cause.Joint) is in
        let t = until_at-some c row (suc plan.plugins) u told in
        let by = told-until (progress_of_stages state) c t.0 u t.2 in
        subst (λ (w : Cause). Verdict w) (sym why) (inl (cut, sym why' ∙ pure-cause (joint-not not_) cut), inr (t.0, by.0, t.1, by.2))

    -- no list ends at the cut after one that does, where no last packet is there
    none-behind : until_at c (up_to pure_row plan.plugins) ≡ None → (k : ℕ) → length (stage_list rules input k).cells ≡ c → (j : ℕ) → k < j → j ≤ plan.plugins → causes_at c (pure_row j) ≡ []
    none-behind none k at zero lt le = absurd (omega arith)
    none-behind none k at (suc i) lt le =
        elim (list-cases c (suc i) (stage_list rules input (suc i))) [
          | inl empty ↦ empty
          | inr (own, is, at') ↦ (let less = apply-before (rule_after rules i) (stage_list rules input i).cells own (other own is at') is in let fall = list-falls rules input i k (omega arith) in absurd (omega arith))
        ]
      where
        other : (own : OwnEnd) → (stage_list rules input (suc i)).ended ≡ Some own → length (stage_list rules input (suc i)).cells ≡ c → own ≢ last_passed
        other own is at' same =
            let some = list-until_at c (suc i) (stage_list rules input (suc i)) (is ∙ ap (λ (o : OwnEnd). Some o) same) at' in
            let n = until_at-none c pure_row plan.plugins none (suc i) le in absurd cc

    -- the greatest stage's own end at the cut
    last-verdict : (limit_of plan (progress_of_stages state) ≡ Some c → ⊥) → until_at c (up_to pure_row plan.plugins) ≡ None → (k : ℕ) (why : Cause) → k ≤ suc plan.plugins → EndsBy (progress_of_stages state) k why → gave state k ≡ c → last_at c (up_to row (suc plan.plugins)) ≡ Some why → Verdict (chosen (up_to row (suc plan.plugins)))
    last-verdict not_ none k why le by at is =
        subst (λ (w : Cause). Verdict w) (sym told) (judged (own-or-fault plan.plugins k (stage_list rules input k) (state.stages k).given by.end why (faithful.ends k by.end by.ended) by.gives), inr (k, by, le, at))
      where
        told : chosen (up_to row (suc plan.plugins)) ≡ why
        told =
            ap (λ (o : Option Cause). unwrap_or (option_or o (last_at c (up_to row (suc plan.plugins)))) cause.Joint) (same-until ∙ none)
            ∙ ap (λ (o : Option Cause). unwrap_or (option_or None o) cause.Joint) is

        plugin : (own : OwnEnd) → IsEndOf (stage_list rules input k) (state.stages k).given own → k ≤ plan.plugins
        plugin own e =
            elim (cases_eq k (suc plan.plugins)) [
              | inl same ↦ (let n : (stage_list rules input k).ended ≡ None = ap (λ i. (stage_list rules input i).ended) same ∙ output-ended plan rules input plugins in let s = e.ended in absurd cc)
              | inr apart ↦ omega arith
            ]

        judged : ((own : OwnEnd) × IsEndOf (stage_list rules input k) (state.stages k).given own × (why ≡ cause_of_end k own)) ⊎ IsTrue (is_fault why) → IsPureClose rules input (stages_of plan.users) c why ⊎ IsValidFault rules input (stages_of plan.users) c why
        judged (inl (own, e, w)) =
            let within = plugin own e in
            let at' : length (stage_list rules input k).cells ≡ c = ap length (sym e.whole) ∙ at in
            let cut = cut-pure k within at' in
            let here : causes_at c (pure_row k) ≡ why ∷ [] = list-here c k (stage_list rules input k) own e.ended at' ∙ ap (λ (x : Cause). x ∷ []) (sym w) in
            let last = last_at-is c pure_row k why here plan.plugins within (none-behind none k at') in
            let chose : chosen (up_to pure_row plan.plugins) ≡ why = ap (λ (o : Option Cause). unwrap_or (option_or o (last_at c (up_to pure_row plan.plugins))) cause.Joint) none ∙ ap (λ (o : Option Cause). unwrap_or (option_or None o) cause.Joint) last in
            inl (cut, sym chose ∙ pure-cause (joint-not not_) cut)
        judged (inr fault) =
            inr (record {
              fault = fault;
              within = cut-above;
              not_joint = joint-not not_;
              no_last = ap (λ (endings : List Ending). until_at c endings) pure-endings ∙ none;
            })

    -- an own end at the cut
    own-verdict : (limit_of plan (progress_of_stages state) ≡ Some c → ⊥) → until_at c (up_to pure_row plan.plugins) ≡ None → Verdict (chosen (up_to row (suc plan.plugins)))
    own-verdict not_ none = from cut-within
      where
        from : IsCutWithin plan (progress_of_stages state) c → Verdict (chosen (up_to row (suc plan.plugins)))
        from (inl (k, why, by, in_, small)) =
            let far = reached k in_ in
            let l = last-told (progress_of_stages state) c (suc plan.plugins) k why in_ by (omega arith) in
            last-verdict not_ none l.0 l.1 l.2 l.3 l.4 l.5
        from (inr (limit, is, le)) =
            let a = limit-above limit is in
            let same : limit ≡ c = omega arith in absurd (not_ (is ∙ ap (λ n. Some n) same))

    verdict : Verdict (cause_among c (limit_of plan (progress_of_stages state)) (told_endings (progress_of_stages state) (suc plan.plugins)))
    verdict =
        elim (cases_Bool (is_at (limit_of plan (progress_of_stages state)) c)) [
          | inl at ↦ subst (λ (w : Cause). Verdict w) (sym (cond-true (is_at (limit_of plan (progress_of_stages state)) c) cause.Joint (chosen (told_endings (progress_of_stages state) (suc plan.plugins))) at)) (joint-verdict (is_at-some (limit_of plan (progress_of_stages state)) c at))
          | inr off ↦ subst (λ (w : Cause). Verdict w) (sym (cond-false (is_at (limit_of plan (progress_of_stages state)) c) cause.Joint (chosen (told_endings (progress_of_stages state) (suc plan.plugins))) off ∙ ap (λ (endings : List Ending). chosen endings) (told-rows (progress_of_stages state) (suc plan.plugins)))) (by_until (λ is. (let on : is_at (limit_of plan (progress_of_stages state)) c ≡ true = ap (λ (o : Option ℕ). is_at o c) is ∙ eq-eqb c c refl in absurd cc)))
        ]
      where
        by_until : (limit_of plan (progress_of_stages state) ≡ Some c → ⊥) → Verdict (chosen (up_to row (suc plan.plugins)))
        by_until not_ =
            elim (until_at c (up_to pure_row plan.plugins)) as (λ o. until_at c (up_to pure_row plan.plugins) ≡ o → Verdict (chosen (up_to row (suc plan.plugins)))) [
              | Some u ↦ (λ is. until-verdict not_ u is)
              | None ↦ (λ none. own-verdict not_ none)
            ] refl

    -- what holds at the close
    pub closing : AtClose plan rules input state (cut_at_close plan (progress_of_stages state)) (cause_at_close plan (progress_of_stages state))
    closing =
        let P : ℕ → Type 0 = λ m. AtClose plan rules input state m (cause_among m (limit_of plan (progress_of_stages state)) (told_endings (progress_of_stages state) (suc plan.plugins))) in
        subst P (sym cut-is) (record {
          written = prefix-is_take (state.stages (suc plan.plugins)).given (end_list rules input).cells output-prefix;
          reached = reached;
          counted = (λ k le. prefix-take c (state.stages k).given (stage_list rules input k).cells (faithful.lists k) (reached-plugins k le));
          made = (let a = sound.within 0 in let b = sound.bound in omega arith);
          pure_or_fault = verdict.0;
          told = verdict.1;
        })
