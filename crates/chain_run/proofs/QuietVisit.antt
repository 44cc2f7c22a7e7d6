-- A visit that gives nothing and reports nothing: all stages stand for what they stood for.
use Rattle.std.proofs.Common.{◌≡◌, ℕ, zero, suc, ◌+◌, ◌<◌, ◌≤◌, List, [], ◌∷◌, ◌++◌, length, take, drop, Option, None, refl, ap, sym, ◌∙◌, subst, arith, inl, inr, append-nil}
use Rattle.std.specs.Prelude.{slice_index_or, slice_set}
use Rattle.std.proofs.lemmas.Bool.{cases_eq}
use Rattle.std.proofs.lemmas.List.{set-get_or, length-take}
use Rattle.ts_packet.specs.declared.cell.Cell.{Cell}
use Rattle.chain_model.specs.Prefix.{IsPrefix}
use Rattle.chain_model.specs.PluginRule.{PluginRule}
use Rattle.chain_model.specs.Apply.{StageList, apply}
use Rattle.chain_model.specs.StageLists.{rule_after}
use Rattle.chain_model.proofs.AgreementLaws.{agreement_of-within}
use Rattle.chain_core.proofs.Facts.{take-prefix}
use Rattle.chain_core.specs.declared.core_plan.CorePlan.{CorePlan}
use Rattle.chain_core.specs.declared.stage_end.StageEnd.{StageEnd}
use Rattle.chain_core.specs.declared.stage_word.StageWord.{StageWord}
use Rattle.chain_core.specs.Numbers.{written_of}
use Rattle.chain_core.specs.Machine.{ChainState, StageState, Visit, progress_of_stages, visit_of, Allowed}
use Rattle.chain_core.specs.ChainRun.{ChainRun, state_after, took}
use Rattle.chain_core.specs.CoreNumbers.{CoreNumbers, IsValidPlan, StandsFor}
use Rattle.chain_core.specs.Keeps.{Keeps, KeepsList, KeepsAgreement}
use Rattle.stage_run.specs.Seeing.{Seeing}
use Rattle.stage_run.specs.declared.stage_part.StagePart.{StagePart}
use Rattle.stage_run.specs.PartLists.{PartLists}
use Rattle.stage_run.specs.PartStands.{PartGives}
use Rattle.chain_run.specs.Slots.{slot, HoldsFrom}
use Rattle.chain_run.specs.Runs.{nothing_told, RunStart}
use Rattle.chain_run.specs.OneStage.{Doing, StandsIn}
use Rattle.chain_run.specs.SerialRuns.{RunsBy}
use Rattle.chain_run.specs.Laws.{MachineLaws}
use Rattle.chain_run.proofs.NumberLaws.{change, stage-other, written-grows, given-falls}
use Rattle.chain_run.proofs.StepLemmas.{set_at, pick, doing-more, Own, stepped}

-- ---- a stage that goes on may report nothing

list-going : (plugins k : ℕ) (list : StageList) (given same : List Cell) (ended : Option StageEnd) → ended ≡ None → same ≡ given → KeepsList plugins k list given ended → KeepsList plugins k list (same ++ []) None
list-going plugins k list given same ended none is keeps =
    subst (λ (g : List Cell). KeepsList plugins k list g None) (sym (append-nil same ∙ is)) (subst (λ (e : Option StageEnd). KeepsList plugins k list given e) none keeps)

pub silent : (rule : PluginRule) (met : List Cell) (before now : ℕ) → now ≤ before → KeepsAgreement rule (take now met) before None
silent rule met before now le = record {
  truly = λ agreed told. cc;
  at_once = λ agreed is above. let a = agreement_of-within rule (take now met) agreed is in let b = length-take now met in absurd (omega arith);
}

module _ (laws : MachineLaws) (plan : CorePlan) (rules : List PluginRule) (input : StageList) (valid : IsValidPlan plan) (visits : List Visit) (given : List Cell) (word : StageWord) where
  -- what a stage has done by the cells of its visit lets it go on
  pub going-own : (k : ℕ) → ChainRun plan (visit_of k given word ∷ visits) → word.ended ≡ None → Keeps plan rules input (state_after plan visits) (visit_of k given word)
      → Keeps plan rules input (state_after plan (visit_of k given word ∷ visits)) (visit_of k [] nothing_told)
  going-own zero run none keeps =
      let new = change laws plan valid.users visits (visit_of 0 given word) run in
      record {
        list = list-going plan.plugins 0 input (((state_after plan visits).stages 0).given ++ given) ((state_after plan (visit_of 0 given word ∷ visits)).stages 0).given word.ended none new.given keeps.list;
        agreement = tt;
      }
  going-own (suc j) run none keeps =
      let old : ChainState = state_after plan visits in
      let now : ChainState = state_after plan (visit_of (suc j) given word ∷ visits) in
      let new = change laws plan valid.users visits (visit_of (suc j) given word) run in
      let same : now.stages j ≡ old.stages j = stage-other laws plan valid.users visits (visit_of (suc j) given word) run j (λ e. absurd (omega (arith, e))) in
      let met : IsPrefix (took old (suc j)) (took now (suc j)) =
      subst (λ (s : StageState). IsPrefix (take (old.stages (suc j)).taken (old.stages j).given) (take (now.stages (suc j)).taken s.given)) (sym same) (take-prefix (old.stages (suc j)).taken (now.stages (suc j)).taken (old.stages j).given new.no_less) in
      record {
        list = list-going plan.plugins (suc j) (apply (rule_after rules j) (took now (suc j))) ((old.stages (suc j)).given ++ given) (now.stages (suc j)).given word.ended none new.given
            (laws.keeps (rule_after rules j) (took old (suc j)) (took now (suc j)) ((old.stages (suc j)).given ++ given) plan.plugins (suc j) word.ended met keeps.list);
        agreement = silent (rule_after rules j) (took now (suc j)) (length (now.stages (suc j)).given) (length (now.stages (suc j)).given + 0) (omega arith);
      }

-- ---- the visit

module _ {S K P : Type 0} (see : Seeing S K P) (begun : RunStart S K)
    (laws : MachineLaws) (valid : IsValidPlan begun.plan) (core new_core : CoreNumbers) (parts : List (StagePart S K P)) (cells : List Cell) (visits : List Visit) (part : ℕ → StagePart S K P) (lists : ℕ → PartLists)
    (by : RunsBy see begun core parts cells visits part lists)
    (k : ℕ) (is_stage : k ≤ suc begun.plan.plugins) (ended : ((state_after begun.plan visits).stages k).ended ≡ None)
    (allowed : Allowed begun.plan (state_after begun.plan visits) (visit_of k [] nothing_told))
    (numbers : StandsFor new_core (state_after begun.plan (visit_of k [] nothing_told ∷ visits))) (long : suc begun.plan.plugins < length parts) where
  abbrev old : ChainState
  old = state_after begun.plan visits

  abbrev new : ChainState
  new = state_after begun.plan (visit_of k [] nothing_told ∷ visits)

  abbrev run : ChainRun begun.plan (visit_of k [] nothing_told ∷ visits)
  run = (by.ran.run, allowed)

  abbrev Gives : StageList → Type 0
  Gives input = PartGives see (set_at part k (part k) 0) (set_at lists k (lists k) 0) input

  abbrev Own_ : Type 0
  Own_ = Own see begun laws valid core new_core parts cells cells visits part lists by k [] nothing_told is_stage allowed (part k) (lists k)

  given_same : (j : ℕ) → (new.stages j).given ≡ (old.stages j).given
  given_same j =
      elim (cases_eq j k) [
        | inl same ↦ subst (λ i. (new.stages i).given ≡ (old.stages i).given) (sym same) ((change laws begun.plan valid.users visits (visit_of k [] nothing_told) run).given ∙ append-nil (old.stages k).given)
        | inr apart ↦ ap (λ (s : StageState). s.given) (stage-other laws begun.plan valid.users visits (visit_of k [] nothing_told) run j apart)
      ]

  ended_none : (new.stages k).ended ≡ None
  ended_none = (change laws begun.plan valid.users visits (visit_of k [] nothing_told) run).ended

  ended_same : (new.stages k).ended ≡ (old.stages k).ended
  ended_same = ended_none ∙ sym ended

  grows : written_of begun.plan (progress_of_stages old) ≤ written_of begun.plan (progress_of_stages new)
  grows = written-grows laws begun.plan valid.users visits (visit_of k [] nothing_told) run

  falls : (j : ℕ) → length (old.stages (suc j)).given ≤ length (old.stages j).given
  falls j = given-falls laws begun.plan valid.users visits by.ran.run (suc j) j (omega arith)

  no_more : (j : ℕ) → (new.stages j).given ≡ (old.stages j).given ++ []
  no_more j = given_same j ∙ sym (append-nil (old.stages j).given)

  less : 0 ≡ k → (input : StageList) → PartGives see (part k) (lists k) input → PartGives see (part 0) (lists 0) input
  less same input gives = subst (λ i. PartGives see (part i) (lists i) input) (sym same) gives

  less-all : (input : StageList) → Gives input → PartGives see (part 0) (lists 0) input
  less-all =
      pick (λ p l. (input : StageList) → PartGives see p l input → PartGives see (part 0) (lists 0) input) part lists k (part k) (lists k) 0 less (λ apart input gives. gives)

  stands : StandsIn see begun (part k) k (lists k) new Gives
  stands =
      subst (λ (e : Option StageEnd). Doing see begun (part k) k (lists k) (new.stages k).given e (written_of begun.plan (progress_of_stages new)) (new.stages k).taken (λ i. (new.stages i).given) Gives) (sym ended_same)
      (subst (λ (g : List Cell). Doing see begun (part k) k (lists k) g (old.stages k).ended (written_of begun.plan (progress_of_stages new)) (new.stages k).taken (λ i. (new.stages i).given) Gives) (sym (given_same k))
      (doing-more see begun (part k) k (lists k) (old.stages k).given (old.stages k).ended (written_of begun.plan (progress_of_stages old)) (written_of begun.plan (progress_of_stages new)) (old.stages k).taken (new.stages k).taken
      (λ i. (old.stages i).given) (λ i. (new.stages i).given) (PartGives see (part 0) (lists 0)) Gives grows (change laws begun.plan valid.users visits (visit_of k [] nothing_told) run).no_less
      (λ i e. ([], no_more i, subst (λ n. length (old.stages n).given ≤ length (old.stages i).given) e (falls i))) less-all (by.ran.stands k is_stage)))

  own : Own_
  own = record {
    less = less;
    keeps = λ input was gives. by.going input was k ended;
    going = λ input was gives none. going-own laws begun.plan begun.rules input valid visits [] nothing_told k run refl (by.going input was k ended);
    stands = stands;
    buffer = λ j le. subst (λ (l : List Cell). HoldsFrom (slot cells) (length (new.stages (suc j)).given) (drop (length (new.stages (suc j)).given) l)) (sym (given_same j))
        (subst (λ (l : List Cell). HoldsFrom (slot cells) (length l) (drop (length l) (old.stages j).given)) (sym (given_same (suc j))) (by.buffer j le));
  }

  -- nothing has changed but the numbers
  pub quiet-visit : RunsBy see begun new_core parts cells (visit_of k [] nothing_told ∷ visits) (set_at part k (part k)) (set_at lists k (lists k))
  quiet-visit =
      let here : slice_index_or parts k (part k) ≡ part k = by.ran.parts_are k (part k) is_stage in
      let same : slice_set parts k (part k) ≡ parts = ap (λ (p : StagePart S K P). slice_set parts k p) (sym here) ∙ set-get_or parts k (part k) in
      subst (λ (ps : List (StagePart S K P)). RunsBy see begun new_core ps cells (visit_of k [] nothing_told ∷ visits) (set_at part k (part k)) (set_at lists k (lists k))) same
      (stepped see begun laws valid core new_core parts cells cells visits part lists by k [] nothing_told is_stage allowed (part k) (lists k) numbers long own)
