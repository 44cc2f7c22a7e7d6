-- In a run whose stages do as their lists say, each stage gives a first part of its pure list, ends as that
-- list does, and reports its agreement where it is due.
use Rattle.std.proofs.Common.{◌≡◌, ◌≢◌, inl, inr, ℕ, zero, suc, ◌+◌, ◌≤◌, List, [], ◌∷◌, ◌++◌, length, take, true, false, Option, Some, None, refl, ap, sym, ◌∙◌, subst, arith, length-append}
use Rattle.std.specs.Option.{option_or}
use Rattle.std.proofs.lemmas.Bool.{cases_eq, cases_lt, cond-true}
use Rattle.std.proofs.lemmas.List.{length-take-le, take-take}
use Rattle.ts_packet.specs.declared.cell.Cell.{Cell}
use Rattle.chain_model.specs.declared.input_end.InputEnd.TheVariants.{End, Sync, ReadFault, TooLong}
use Rattle.chain_model.specs.Prefix.{IsPrefix}
use Rattle.chain_model.specs.PluginRule.{PluginRule}
use Rattle.chain_model.specs.Apply.{OwnEnd, last_passed, input_over, StageList, apply}
use Rattle.chain_model.specs.StageLists.{rule_after, stage_list}
use Rattle.chain_model.specs.Joint.{agreement_of}
use Rattle.chain_model.proofs.PrefixLemmas.{IsPrefix-trans, IsPrefix-take, IsPrefix-apply}
use Rattle.chain_model.proofs.ApplyLaws.{apply-ended, apply-last, apply-last_some}
use Rattle.chain_model.proofs.AgreementLaws.{agreement_of-more, agreement_of-first, agreement_of-nothing}
use Rattle.chain_core.specs.declared.core_plan.CorePlan.{CorePlan}
use Rattle.chain_core.specs.declared.stage_end.StageEnd.{StageEnd}
use Rattle.chain_core.specs.declared.stage_end.StageEnd.TheVariants.{Input, Last, Stop, Refuse, WriteFault, NoMemory, Followed}
use Rattle.chain_core.specs.Stages.{has_stage}
use Rattle.chain_core.specs.Numbers.{agreed_with}
use Rattle.chain_core.specs.Machine.{StageState, ChainState, Visit, start, visited, Allowed}
use Rattle.chain_core.specs.ChainRun.{ChainRun, state_after, took}
use Rattle.chain_core.specs.Keeps.{IsEndOf, EndsAs, KeepsList, KeepsAgreement, Agrees, list_made, Keeps, AllKeep}
use Rattle.chain_core.proofs.Facts.{prefix-length, prefix-whole, prefix-take, take-prefix}
use Rattle.chain_core.proofs.Stepping.{visited-other, visited-same}
use Rattle.chain_core.proofs.Soundness.{gave, took_count, AreUsers, Sound, run-sound}

-- an end that holds of one list holds of another that ends so where the first does
ends-moved : (plugins k : ℕ) (a b : StageList) (given : List Cell) → ((own : OwnEnd) → IsEndOf a given own → IsEndOf b given own) → (end : StageEnd) → EndsAs plugins k a given end → EndsAs plugins k b given end
ends-moved plugins k a b given move (Input (End left)) e = move (input_over (End left)) e
ends-moved plugins k a b given move (Input (Sync packet)) e = move (input_over (Sync packet)) e
ends-moved plugins k a b given move (Input ReadFault) e = e
ends-moved plugins k a b given move (Input TooLong) e = move (input_over TooLong) e
ends-moved plugins k a b given move Last e = move _ e
ends-moved plugins k a b given move Stop e = move _ e
ends-moved plugins k a b given move (Refuse reason) e = move _ e
ends-moved plugins k a b given move WriteFault e = e
ends-moved plugins k a b given move NoMemory e = e
ends-moved plugins k a b given move Followed e = e

-- what a plugin makes of a first part of its cells ends as the whole does
IsEndOf-more : (rule : PluginRule) (met whole given : List Cell) → IsPrefix met whole → (own : OwnEnd) → IsEndOf (apply rule met) given own → IsEndOf (apply rule whole) given own
IsEndOf-more rule met whole given p own e =
    let s = apply-ended rule met p.0 own e.ended in
    record {
      ended = ap (λ (cells : List Cell). (apply rule cells).ended) p.1 ∙ s.1;
      whole = e.whole ∙ (sym s.0 ∙ ap (λ (cells : List Cell). (apply rule cells).cells) (sym p.1));
    }

-- where all of a list that ends after a last packet was given, it was seen to end so
IsEndOf-last : (rule : PluginRule) (met whole given : List Cell) → IsPrefix met whole → IsPrefix given (apply rule met).cells → IsEndOf (apply rule whole) given last_passed → IsEndOf (apply rule met) given last_passed
IsEndOf-last rule met whole given p g e =
    let f : (cells : List Cell) → List Cell = λ cells. (apply rule cells).cells in
    let is : length (f (met ++ p.0)) ≡ length given = ap (λ (cells : List Cell). length (apply rule cells).cells) (sym p.1) ∙ ap length (sym e.whole) in
    let le : length given ≤ length (f met) = prefix-length given (f met) g in
    let ended : (apply rule (met ++ p.0)).ended ≡ Some last_passed = ap (λ (cells : List Cell). (apply rule cells).ended) (sym p.1) ∙ e.ended in
    let last = apply-last rule met p.0 ended (omega arith) in
    let more : length (f met) ≤ length (f (met ++ p.0)) = prefix-length (f met) (f (met ++ p.0)) (IsPrefix-apply rule met (met ++ p.0) (p.0, refl)) in
    record { ended = last; whole = prefix-whole given (f met) g (omega arith) }

-- what a stage has done by a first part of its cells it has done by all of them
pub KeepsList-more : (rule : PluginRule) (met whole given : List Cell) (plugins k : ℕ) (ended : Option StageEnd) → IsPrefix met whole → KeepsList plugins k (apply rule met) given ended → KeepsList plugins k (apply rule whole) given ended
KeepsList-more rule met whole given plugins k ended p keeps = record {
  gives = IsPrefix-trans given (apply rule met).cells (apply rule whole).cells keeps.gives (IsPrefix-apply rule met whole p);
  ends = (λ end is. ends-moved plugins k (apply rule met) (apply rule whole) given (IsEndOf-more rule met whole given p) end (keeps.ends end is));
  last_at_once = (λ e. keeps.last_at_once (IsEndOf-last rule met whole given p keeps.gives e));
}

-- what holds of a state by the rules of the plugins
pub record Faithful (plan : CorePlan) (rules : List PluginRule) (input : StageList) (state : ChainState) : Type 0 where
  pub lists : (k : ℕ) → IsPrefix (state.stages k).given (stage_list rules input k).cells
  pub ends : (k : ℕ) (end : StageEnd) → (state.stages k).ended ≡ Some end → EndsAs plan.plugins k (stage_list rules input k) (state.stages k).given end
  pub lasts_told : (k : ℕ) → IsEndOf (stage_list rules input k) (state.stages k).given last_passed → (state.stages k).ended ≡ Some Last
  pub agreed : (j : ℕ) → has_stage plan.users (suc j) ≡ true → (state.stages (suc j)).agreed ≡ agreement_of (rule_after rules j) (take (gave state (suc j)) (stage_list rules input j).cells)

pub start-faithful : (plan : CorePlan) (rules : List PluginRule) (input : StageList) → ((j : ℕ) → (rule_after rules j).agrees [] ≡ false) → input.ended ≢ Some last_passed → Faithful plan rules input start
start-faithful plan rules input late no_last = record {
  lists = (λ k. ((stage_list rules input k).cells, refl));
  ends = (λ k end is. absurd cc);
  lasts_told = (λ k e. absurd (nothing k e));
  agreed = (λ j user. sym (agreement_of-nothing (rule_after rules j) (late j)));
}
  where
    nothing : (k : ℕ) → IsEndOf (stage_list rules input k) [] last_passed → ⊥
    nothing zero e = no_last e.ended
    nothing (suc j) e =
        let some = apply-last_some (rule_after rules j) (stage_list rules input j).cells e.ended in
        let none = ap length e.whole in absurd (omega arith)

-- an agreement as it is known after a visit
agreement-step : (rule : PluginRule) (a rest : List Cell) (known told : Option ℕ) → known ≡ agreement_of rule a → KeepsAgreement rule (a ++ rest) (length a) told → option_or known told ≡ agreement_of rule (a ++ rest)
agreement-step rule a rest (Some n) told is keeps =
    sym (agreement_of-more rule a rest n (sym is))
agreement-step rule a rest None (Some n) is keeps = sym (keeps.truly n refl)
agreement-step rule a rest None None is keeps =
    elim (agreement_of rule (a ++ rest)) as (λ o. agreement_of rule (a ++ rest) ≡ o → None ≡ o) [
      | None ↦ (λ e. refl)
      | Some n ↦ (λ e. elim (cases_lt (length a) n) [
        | inl late ↦ keeps.at_once n e late
        | inr early ↦ is ∙ agreement_of-first rule a rest n e early
      ])
    ] refl

-- one visit
module _ (plan : CorePlan) (rules : List PluginRule) (input : StageList) (state : ChainState) (sound : Sound plan state) (faithful : Faithful plan rules input state) where
  -- what a plugin took is a first part of the list before it
  took-prefix : (j : ℕ) → IsPrefix (took state (suc j)) (stage_list rules input j).cells
  took-prefix j =
      IsPrefix-trans (took state (suc j)) (state.stages j).given (stage_list rules input j).cells
      (IsPrefix-take (took_count state (suc j)) (state.stages j).given) (faithful.lists j)

  kept-list : (k : ℕ) (given : List Cell) (ended : Option StageEnd) → KeepsList plan.plugins k (list_made rules input k (took state k)) given ended → KeepsList plan.plugins k (stage_list rules input k) given ended
  kept-list zero given ended keeps = keeps
  kept-list (suc j) given ended keeps =
      KeepsList-more (rule_after rules j) (took state (suc j)) (stage_list rules input j).cells given plan.plugins (suc j) ended (took-prefix j) keeps

  -- the cells that a plugin met are those of the list before it
  met-cells : (j n : ℕ) → n ≤ took_count state (suc j) → take n (took state (suc j)) ≡ take n (stage_list rules input j).cells
  met-cells j n le =
      let h = sound.handed j in
      take-take n (took_count state (suc j)) (state.stages j).given le ∙ prefix-take n (state.stages j).given (stage_list rules input j).cells (faithful.lists j) (omega arith)

  kept-agreement : (j : ℕ) (cells : List Cell) (told : Option ℕ) → has_stage plan.users (suc j) ≡ true → gave state (suc j) + length cells ≤ took_count state (suc j) → KeepsAgreement (rule_after rules j) (take (gave state (suc j) + length cells) (took state (suc j))) (gave state (suc j)) told
      → agreed_with plan (suc j) (state.stages (suc j)).agreed told ≡ agreement_of (rule_after rules j) (take (gave state (suc j) + length cells) (stage_list rules input j).cells)
  kept-agreement j cells told user held keeps =
      let rule = rule_after rules j in
      let before = gave state (suc j) in
      let now = gave state (suc j) + length cells in
      let whole = (stage_list rules input j).cells in
      let p = take-prefix before now whole (omega arith) in
      let long : now ≤ length whole = (let a = sound.handed j in let b = prefix-length (state.stages j).given whole (faithful.lists j) in omega arith) in
      let size : length (take before whole) ≡ before = length-take-le before whole (omega arith) in
      let same : take now (took state (suc j)) ≡ take before whole ++ p.0 = met-cells j now held ∙ p.1 in
      let keeps' : KeepsAgreement rule (take before whole ++ p.0) (length (take before whole)) told = subst (λ n. KeepsAgreement rule (take before whole ++ p.0) n told) (sym size) (subst (λ (cells : List Cell). KeepsAgreement rule cells before told) same keeps) in
      cond-true (has_stage plan.users (suc j)) (option_or (state.stages (suc j)).agreed told) (state.stages (suc j)).agreed user
      ∙ (agreement-step rule (take before whole) p.0 (state.stages (suc j)).agreed told (faithful.agreed j user) keeps'
      ∙ ap (agreement_of rule) (sym p.1))

module _ (plan : CorePlan) (rules : List PluginRule) (input : StageList) (state : ChainState) (visit : Visit) (sound : Sound plan state) (faithful : Faithful plan rules input state) (ok : Allowed plan state visit) (keeps : Keeps plan rules input state visit) where
  new-given : ((visited plan state visit).stages visit.stage).given ≡ (state.stages visit.stage).given ++ visit.cells
  new-given = ap (λ (stage : StageState). stage.given) (visited-same plan state visit)

  new-ended : ((visited plan state visit).stages visit.stage).ended ≡ visit.word.ended
  new-ended = ap (λ (stage : StageState). stage.ended) (visited-same plan state visit)

  new-agreed : ((visited plan state visit).stages visit.stage).agreed ≡ agreed_with plan visit.stage (state.stages visit.stage).agreed visit.word.agreed
  new-agreed = ap (λ (stage : StageState). stage.agreed) (visited-same plan state visit)

  here : KeepsList plan.plugins visit.stage (stage_list rules input visit.stage) ((visited plan state visit).stages visit.stage).given ((visited plan state visit).stages visit.stage).ended
  here =
      let kept = kept-list plan rules input state sound faithful visit.stage ((state.stages visit.stage).given ++ visit.cells) visit.word.ended keeps.list in
      subst (λ (ended : Option StageEnd). KeepsList plan.plugins visit.stage (stage_list rules input visit.stage) ((visited plan state visit).stages visit.stage).given ended) (sym new-ended)
      (subst (λ (given : List Cell). KeepsList plan.plugins visit.stage (stage_list rules input visit.stage) given visit.word.ended) (sym new-given) kept)

  -- the stage of the visit agrees as its rule says
  agreed-here : (j : ℕ) → visit.stage ≡ suc j → has_stage plan.users (suc j) ≡ true → ((visited plan state visit).stages (suc j)).agreed ≡ agreement_of (rule_after rules j) (take (gave (visited plan state visit) (suc j)) (stage_list rules input j).cells)
  agreed-here j at user =
      let held : gave state (suc j) + length visit.cells ≤ took_count state (suc j) = subst (λ k. gave state k + length visit.cells ≤ took_count state k) at ok.held in
      let told : KeepsAgreement (rule_after rules j) (take (gave state (suc j) + length visit.cells) (took state (suc j))) (gave state (suc j)) visit.word.agreed = subst (λ k. Agrees rules k (took state k) (gave state k) (gave state k + length visit.cells) visit.word.agreed) at keeps.agreement in
      let given : gave (visited plan state visit) (suc j) ≡ gave state (suc j) + length visit.cells = subst (λ k. gave (visited plan state visit) k ≡ gave state k + length visit.cells) at (ap length new-given ∙ length-append (state.stages visit.stage).given visit.cells) in
      let is : ((visited plan state visit).stages (suc j)).agreed ≡ agreed_with plan (suc j) (state.stages (suc j)).agreed visit.word.agreed = subst (λ k. ((visited plan state visit).stages k).agreed ≡ agreed_with plan k (state.stages k).agreed visit.word.agreed) at new-agreed in
      is ∙ (kept-agreement plan rules input state sound faithful j visit.cells visit.word.agreed user held told
      ∙ ap (λ n. agreement_of (rule_after rules j) (take n (stage_list rules input j).cells)) (sym given))

  agreed-there : (j : ℕ) → suc j ≢ visit.stage → has_stage plan.users (suc j) ≡ true → ((visited plan state visit).stages (suc j)).agreed ≡ agreement_of (rule_after rules j) (take (gave (visited plan state visit) (suc j)) (stage_list rules input j).cells)
  agreed-there j apart user =
      let same = visited-other plan state visit (suc j) apart in
      ap (λ (stage : StageState). stage.agreed) same ∙ (faithful.agreed j user ∙ ap (λ (stage : StageState). agreement_of (rule_after rules j) (take (length stage.given) (stage_list rules input j).cells)) (sym same))

  -- each stage, the one of the visit or another
  each : (k : ℕ) → (IsPrefix ((visited plan state visit).stages k).given (stage_list rules input k).cells) × ((end : StageEnd) → ((visited plan state visit).stages k).ended ≡ Some end → EndsAs plan.plugins k (stage_list rules input k) ((visited plan state visit).stages k).given end) × (IsEndOf (stage_list rules input k) ((visited plan state visit).stages k).given last_passed → ((visited plan state visit).stages k).ended ≡ Some Last)
  each k =
      elim (cases_eq k visit.stage) [
        | inl same ↦ subst (λ i. Goal i) (sym same) (here.gives, here.ends, here.last_at_once)
        | inr apart ↦ subst (λ (stage : StageState). GoalOf k stage) (sym (visited-other plan state visit k apart)) (faithful.lists k, faithful.ends k, faithful.lasts_told k)
      ]
    where
      GoalOf : ℕ → StageState → Type 0
      GoalOf k stage = IsPrefix stage.given (stage_list rules input k).cells × ((end : StageEnd) → stage.ended ≡ Some end → EndsAs plan.plugins k (stage_list rules input k) stage.given end) × (IsEndOf (stage_list rules input k) stage.given last_passed → stage.ended ≡ Some Last)

      Goal : ℕ → Type 0
      Goal k = GoalOf k ((visited plan state visit).stages k)

  pub visited-faithful : Faithful plan rules input (visited plan state visit)
  visited-faithful = record {
    lists = (λ k. (each k).0);
    ends = (λ k. (each k).1);
    lasts_told = (λ k. (each k).2);
    agreed = (λ j user. elim (cases_eq (suc j) visit.stage) [ inl same ↦ agreed-here j (sym same) user | inr apart ↦ agreed-there j apart user ]);
  }

-- every state of a run
pub run-faithful : (plan : CorePlan) (rules : List PluginRule) (input : StageList) → ((j : ℕ) → (rule_after rules j).agrees [] ≡ false) → input.ended ≢ Some last_passed → AreUsers plan → (visits : List Visit) → ChainRun plan visits → AllKeep plan rules input visits → Faithful plan rules input (state_after plan visits)
unfolding state_after
run-faithful plan rules input late no_last users [] run kept =
    start-faithful plan rules input late no_last
run-faithful plan rules input late no_last users (visit ∷ earlier) run kept =
    visited-faithful plan rules input (state_after plan earlier) visit (run-sound plan users earlier run.0)
    (run-faithful plan rules input late no_last users earlier run.0 kept.0) run.1 kept.1
