-- A turn of a stage: two visits with its work between them.
use Rattle.std.proofs.Common.{◌≡◌, ℕ, ◌+◌, ◌≤◌, Bool, true, false, [], ◌++◌, length, Option, Some, None, refl, ap, sym, ◌∙◌, subst, inl, inr, append-nil}
use Rattle.std.specs.Prelude.{◌||◌}
use Rattle.std.specs.Option.{option_or}
use Rattle.std.proofs.lemmas.Bool.{cases_eq, cases_Bool, cond-true, cond-false, leb-true, le-leb}
use Rattle.ts_outside.specs.Source.{SourceView}
use Rattle.chain_model.specs.Apply.{StageList, input_over}
use Rattle.chain_model.specs.InputList.{input_of_bytes, input_of_nulls}
use Rattle.chain_model.specs.Stuffed.{null_cells, stuffed_after, stop_nulls}
use Rattle.chain_model.specs.Stuffed as model
use Rattle.chain_model.specs.declared.input_end.InputEnd.{InputEnd}
use Rattle.chain_core.specs.declared.core_plan.CorePlan.{CorePlan}
use Rattle.chain_core.specs.Stages.{has_stage}
use Rattle.chain_core.specs.Numbers.{StagesProgress, limit_of, takes_of, agreed_with, is_before_over, is_after_over, news_of, MayFollow}
use Rattle.chain_core.specs.Machine.{ChainState, StageState, Visit, progress_of_stage, progress_of_stages, visit_of, noted, visited}
use Rattle.chain_core.proofs.Stepping.{noted-same, noted-other, visited-same}
use Rattle.stage_run.specs.declared.input_part.InputPart.{InputPart}
use Rattle.stage_run.specs.declared.input_part.InputPart.TheVariants.{Stream, Nulls, Generated}
use Rattle.stage_run.specs.GeneratedInput.{input_of_generated}
use Rattle.stage_run.specs.Parts.{IsListOf}
use Rattle.stage_run.specs.Telling.{is_reached, may_follow}
use Rattle.stage_run.proofs.ContinuesLemmas.{within_limit-ends}
use Rattle.chain_run.specs.Runs.{nothing_told}

-- the list of an input ends by the input's end
pub list-ends : {S : Type 0} (seen : S → SourceView) (from : InputPart S) (stuffing : model.Stuffing) (list : StageList) → IsListOf seen from stuffing list → (how : InputEnd) × (list.ended ≡ Some (input_over how))
list-ends seen (Stream source) stuffing list is =
    let e = within_limit-ends (null_cells stuffing.start ++ (stuffed_after stuffing 0 (input_of_bytes is.0).packets ++ stop_nulls stuffing (input_of_bytes is.0).ended)) (input_of_bytes is.0).ended in
    (e.0, ap (λ (l : StageList). l.ended) is.1 ∙ e.1)
list-ends seen (Nulls count) stuffing list is =
    let e = within_limit-ends (null_cells stuffing.start ++ (stuffed_after stuffing 0 (input_of_nulls count).packets ++ stop_nulls stuffing (input_of_nulls count).ended)) (input_of_nulls count).ended in
    (e.0, ap (λ (l : StageList). l.ended) is ∙ e.1)
list-ends seen (Generated generator count) stuffing list is =
    let packets = input_of_generated generator.seed count in
    let e = within_limit-ends (null_cells stuffing.start ++ (stuffed_after stuffing 0 packets.packets ++ stop_nulls stuffing packets.ended)) packets.ended in
    (e.0, ap (λ (l : StageList). l.ended) is ∙ e.1)

-- what a stage may do by its news it may do by the numbers
pub follows-news : (plan : CorePlan) (progress : StagesProgress) (k now : ℕ) → may_follow (news_of plan progress k) now ≡ true → MayFollow plan progress k now
follows-news plan progress k now is =
    elim (cases_Bool (is_before_over progress k)) [
      | inl before ↦ inl before
      | inr not_before ↦ elim (cases_Bool (is_after_over plan progress k)) [
        | inl behind ↦ inr (inl behind)
        | inr not_after ↦ inr (inr (reached (limit_of plan progress) refl (sym (or-none (is_before_over progress k) (is_after_over plan progress k) (is_reached (limit_of plan progress) now) not_before not_after) ∙ is)))
      ]
    ]
  where
    or-none : (a b c : Bool) → a ≡ false → b ≡ false → (a || (b || c)) ≡ c
    or-none true b c no_ none = absurd cc
    or-none false true c no_ none = absurd cc
    or-none false false c no_ none = refl

    reached : (o : Option ℕ) → limit_of plan progress ≡ o → is_reached o now ≡ true → (limit : ℕ) × (limit_of plan progress ≡ Some limit) × (limit ≤ now)
    reached None e yes_ = absurd cc
    reached (Some limit) e yes_ = (limit, e, leb-true limit now yes_)

pub not-following : (plan : CorePlan) (progress : StagesProgress) (k now : ℕ) → may_follow (news_of plan progress k) now ≡ false → MayFollow plan progress k now → ⊥
not-following plan progress k now no_ (inl before) =
    let e : is_before_over progress k ≡ true = before in
    let t : may_follow (news_of plan progress k) now ≡ true = ap (λ (b : Bool). b || (is_after_over plan progress k || is_reached (limit_of plan progress) now)) e in
    let f : true ≡ false = sym t ∙ no_ in cc
not-following plan progress k now no_ (inr (inl behind)) =
    let e : is_after_over plan progress k ≡ true = behind in
    let t : may_follow (news_of plan progress k) now ≡ true = ap (λ (b : Bool). is_before_over progress k || (b || is_reached (limit_of plan progress) now)) e ∙ or-true (is_before_over progress k) in
    let f : true ≡ false = sym t ∙ no_ in cc
  where
    or-true : (b : Bool) → (b || true) ≡ true
    or-true true = refl
    or-true false = refl
not-following plan progress k now no_ (inr (inr reached)) =
    let e : is_reached (limit_of plan progress) now ≡ true = ap (λ (o : Option ℕ). is_reached o now) reached.1 ∙ le-leb reached.0 now reached.2 in
    let t : may_follow (news_of plan progress k) now ≡ true = ap (λ (b : Bool). is_before_over progress k || (is_after_over plan progress k || b)) e ∙ or-both (is_before_over progress k) (is_after_over plan progress k) in
    let f : true ≡ false = sym t ∙ no_ in cc
  where
    or-both : (a b : Bool) → (a || (b || true)) ≡ true
    or-both true b = refl
    or-both false true = refl
    or-both false false = refl

-- the progress of a stage that gave and reported nothing
module _ (plan : CorePlan) (state : ChainState) (k : ℕ) (open_ : (state.stages k).ended ≡ None) where
  abbrev pub quiet : Visit
  quiet = visit_of k [] nothing_told

  pub quiet-agreed : (known : Option ℕ) → agreed_with plan k known None ≡ known
  quiet-agreed known =
      elim (cases_Bool (has_stage plan.users k)) [
        | inl yes_ ↦ cond-true (has_stage plan.users k) (option_or known None) known yes_ ∙ or-none known
        | inr no_ ↦ cond-false (has_stage plan.users k) (option_or known None) known no_
      ]
    where
      or-none : (o : Option ℕ) → option_or o None ≡ o
      or-none None = refl
      or-none (Some n) = refl

  pub quiet-mark : (j : ℕ) → progress_of_stages (noted plan state quiet) j ≡ progress_of_stages state j
  quiet-mark j =
      elim (cases_eq j k) [
        | inl same ↦ subst (λ i. progress_of_stages (noted plan state quiet) i ≡ progress_of_stages state i) (sym same) here
        | inr apart ↦ ap progress_of_stage (noted-other plan state quiet j apart)
      ]
    where
      here : progress_of_stages (noted plan state quiet) k ≡ progress_of_stages state k
      here =
          ap progress_of_stage (noted-same plan state quiet)
          ∙ ((λ i. record { given = length (append-nil (state.stages k).given i); taken = (state.stages k).taken; agreed = quiet-agreed (state.stages k).agreed i; ended = sym open_ i }))

  -- it takes of what waits
  pub quiet-taken : ((visited plan state quiet).stages k).taken ≡ (state.stages k).taken + takes_of plan (progress_of_stages state) k
  quiet-taken =
      ap (λ (s : StageState). s.taken) (visited-same plan state quiet)
      ∙ ap (λ (progress : StagesProgress). (state.stages k).taken + takes_of plan progress k) (λ i j. quiet-mark j i)
