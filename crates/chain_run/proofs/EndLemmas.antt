-- The end of a run, whoever served its stages.
use Rattle.std.proofs.Common.{◌≡◌, ℕ, suc, ◌+◌, ◌<◌, List, [], ◌∷◌, ◌++◌, length, map, refl, ap, sym, ◌∙◌, subst, arith, length-append}
use Rattle.std.specs.Prelude.{slice_index_or}
use Rattle.std.proofs.Math.Seq.{get_or-append_seam}
use Rattle.chain_model.specs.StageLists.{rule_after}
use Rattle.chain_core.specs.declared.closed.Closed.{Closed}
use Rattle.chain_core.specs.declared.core_plan.CorePlan.{CorePlan}
use Rattle.ts_packet.specs.declared.cell.Cell.{Cell}
use Rattle.chain_core.specs.Machine.{ChainState, Visit, progress_of_stages}
use Rattle.chain_core.specs.Keeps.{KeptRun}
use Rattle.chain_core.specs.ChainRun.{state_after}
use Rattle.chain_core.specs.Close.{closed_of}
use Rattle.plugin_trait.specs.declared.heard.Heard.{Heard}
use Rattle.stage_run.specs.Seeing.{Seeing, heard_rule, heard_stands}
use Rattle.stage_run.specs.HeardSince.{HeardSince}
use Rattle.stage_run.proofs.SinceLemmas.{all-since}
use Rattle.stage_run.specs.declared.input_part.InputPart.{InputPart}
use Rattle.stage_run.specs.declared.output_part.OutputPart.{OutputPart}
use Rattle.stage_run.specs.declared.stage_part.StagePart.{StagePart}
use Rattle.stage_run.specs.declared.stuffing.Stuffing.{Stuffing}
use Rattle.stage_run.specs.PartStands.{PartStands, PartGives, kind_of, stuffing_in, stream_kind, an_input}
use Rattle.stage_run.specs.InputStands.{stuffing_of}
use Rattle.chain_run.specs.Parts.{AreTakenFrom, ArePluginsAndOutput, AreStages, GaveBack}
use Rattle.chain_run.specs.RunOf.{RunBy, RunOf}
use Rattle.chain_run.specs.RunTold.{HeardSinceOne, ClosesTold}
use Rattle.chain_run.specs.Runs.{RunStart, began_with, told_to}
use Rattle.chain_run.specs.Ran.{Ran, HasClosed}
use Rattle.chain_run.specs.Laws.{MachineLaws}
use Rattle.chain_run.proofs.RanLemmas.{is-list, kept-of}
use Rattle.chain_run.proofs.CloseLemmas.{at-close, given-cut, left-input, left-output, gave-of, gave-to, made-input, met-all, wants-of, rules-all}

module _ {S K P : Type 0} (see : Seeing S K P) where
  -- ---- the stages when all have ended

  module _ (begun : RunStart S K) (parts : List (StagePart S K P)) (goes : Ran see begun parts)
      (first : StagePart S K P) (rest : List (StagePart S K P)) (row : parts ≡ first ∷ rest) where
    rest-length : length rest ≡ begun.plan.plugins + 1
    rest-length = let a = goes.stages_are in omega (arith, ap (λ (l : List (StagePart S K P)). length l) row)

    first-is : first ≡ goes.part 0
    first-is =
        sym (ap (λ (l : List (StagePart S K P)). slice_index_or l 0 first) row) ∙ goes.by.parts_are 0 first (omega arith)

    rest-is : (i : ℕ) (d : StagePart S K P) → i < length rest → slice_index_or rest i d ≡ goes.part (suc i)
    rest-is i d lt =
        sym (ap (λ (l : List (StagePart S K P)). slice_index_or l (suc i) d) row) ∙ goes.by.parts_are (suc i) d (let a = rest-length in omega arith)

    first-kind : kind_of first ≡ an_input
    first-kind = ap kind_of first-is ∙ ((goes.by.stands 0 (omega arith)).input refl).kind

    -- the stages after the first are those of the plugins, and the output's
    rest-kinds : ArePluginsAndOutput see rest
    rest-kinds =
        all 0 rest (omega (arith, rest-length)) (omega (arith, rest-length)) (λ i d lt. rest-is i d lt ∙ ap (λ n. goes.part (suc n)) (omega arith))
      where
        all : (j : ℕ) (ps : List (StagePart S K P)) → j + length ps ≡ begun.plan.plugins + 1 → 0 < length ps → ((i : ℕ) (d : StagePart S K P) → i < length ps → slice_index_or ps i d ≡ goes.part (suc (j + i))) → ArePluginsAndOutput see ps
        all j [] number some same = absurd (omega arith)
        all j (p ∷ []) number some same =
            let e : j ≡ begun.plan.plugins = omega arith in
            ap kind_of (same 0 p (omega arith) ∙ ap (λ n. goes.part (suc n)) (omega (arith, e))) ∙ ((goes.by.stands (suc begun.plan.plugins) (omega arith)).output refl).kind
        all j (p ∷ next ∷ ps) number some same = (
          ap kind_of (same 0 p (omega arith) ∙ ap (λ n. goes.part (suc n)) (omega arith)) ∙ ((goes.by.stands (suc j) (omega arith)).plugin j refl (omega arith)).kind,
          all (suc j) (next ∷ ps) (omega arith) (omega arith) (λ i d lt. same (suc i) d (omega arith) ∙ ap (λ n. goes.part (suc n)) (omega arith)),
        )

    kinds-row : AreStages see parts
    kinds-row = subst (AreStages see) (sym row) (first-kind, rest-kinds)

    -- the last one
    module _ (front : List (StagePart S K P)) (last : StagePart S K P) (ends : rest ≡ front ++ last ∷ []) where
      front-length : length front ≡ begun.plan.plugins
      front-length = let a = rest-length in omega (arith, ap (λ (l : List (StagePart S K P)). length l) ends, length-append front (last ∷ []))

      last-is : last ≡ goes.part (suc begun.plan.plugins)
      last-is =
          sym (ap (λ (l : List (StagePart S K P)). slice_index_or l begun.plan.plugins last) ends ∙ (ap (λ n. slice_index_or (front ++ last ∷ []) n last) (sym front-length) ∙ get_or-append_seam front last [] last))
          ∙ rest-is begun.plan.plugins last (let a = rest-length in omega arith)

  -- the stages of a run are those of a chain
  pub are-stages : (begun : RunStart S K) (parts : List (StagePart S K P)) → Ran see begun parts → AreStages see parts
  are-stages begun [] goes = absurd (let a = goes.stages_are in omega arith)
  are-stages begun (first ∷ rest) goes = kinds-row begun (first ∷ rest) goes first rest refl

  -- how many plugins come back
  taken-length : (rest : List (StagePart S K P)) (made : List (Heard P)) → AreTakenFrom see rest made → length rest ≡ length made + 1
  taken-length [] [] taken = absurd taken
  taken-length [] (plugin ∷ made) taken = absurd taken
  taken-length (part ∷ []) [] taken = refl
  taken-length (part ∷ next ∷ rest) [] taken = absurd taken
  taken-length (part ∷ rest) (plugin ∷ made) taken = omega (arith, taken-length rest made taken.1)

  -- ---- what the run comes to

  -- the run, of which each plugin that came back stands for what `as_` says; that its visits are made as the input's list says;
  -- and how much the output gave
  record ClosedBy (as_ : Heard P → List Cell → ℕ → Type 0) (visits : List Visit) (from made_from : InputPart S) (stuffing : Stuffing) (plugins made : List (Heard P)) (to made_to : OutputPart K) (plan : CorePlan) (closed : Closed) : Type 0 where
    pub run : RunBy see as_ from made_from stuffing plugins made to made_to plan closed
    pub kept : KeptRun plan (map (heard_rule see) plugins) run.list visits
    pub gave : length ((state_after plan visits).stages (suc plan.plugins)).given ≡ closed.cut

  module _ (laws : MachineLaws) where
    run-by : (from made_from : InputPart S) (stuffing : Stuffing) (plugins made : List (Heard P)) (to made_to : OutputPart K) (plan : CorePlan) (closed : Closed) (parts : List (StagePart S K P)) (told : ℕ → ℕ)
        (as_ : Heard P → List Cell → ℕ → Type 0) → ((j : ℕ) (plugin : Heard P) (history : List Cell) (mark : ℕ) → HeardSince see.rule see.stands (told j) plugin history mark → as_ plugin history mark)
        → (has : HasClosed see (told_to (began_with see from stuffing plugins to plan) told) parts closed)
        → GaveBack see parts made_from made made_to
        → ClosedBy as_ has.ran.visits from made_from stuffing plugins made to made_to plan closed
    run-by from made_from stuffing plugins made to made_to plan closed parts told as_ stands has back =
        let goes = has.ran in let over = has.over in let closed-is = has.closed_is in
        let first = back.first in let rest = back.rest in let row = back.row in let front = back.front in let last = back.last in let ends = back.ends in
        let taken = back.taken in
        let begun : RunStart S K = told_to (began_with see from stuffing plugins to plan) told in
        let by = goes.by in
        let state : ChainState = state_after plan goes.visits in
        let is-first : first ≡ goes.part 0 = first-is begun parts goes first rest row in
        let is-last : last ≡ goes.part (suc plan.plugins) = last-is begun parts goes first rest row front last ends in
        let first-stands : PartStands see first (goes.lists 0) (state.stages 0).ended =
        subst (λ p. PartStands see p (goes.lists 0) (state.stages 0).ended) (sym is-first) (by.stands 0 (omega arith)).stands_for in
        let last-stands : PartStands see last (goes.lists (suc plan.plugins)) (state.stages (suc plan.plugins)).ended =
        subst (λ p. PartStands see p (goes.lists (suc plan.plugins)) (state.stages (suc plan.plugins)).ended) (sym is-last) (by.stands (suc plan.plugins) (omega arith)).stands_for in
        let chosen = back.some_list (goes.lists 0) (state.stages 0).ended first-stands in
        let gives : PartGives see (goes.part 0) (goes.lists 0) chosen.list = subst (λ p. PartGives see p (goes.lists 0) chosen.list) is-first chosen.gives in
        let many : length made ≡ plan.plugins = let a = taken-length rest made taken in let b = rest-length begun parts goes first rest row in omega arith in
        let at = at-close see laws begun parts goes over chosen.list gives in
        let same : (i : ℕ) (d : StagePart S K P) → i < length made → slice_index_or rest i d ≡ goes.part (suc (0 + i)) =
        λ i d lt. rest-is begun parts goes first rest row i d (let a = taken-length rest made taken in omega arith) ∙ ap (λ n. goes.part (suc n)) (let e : i ≡ 0 + i = omega arith in e) in
        let rules-length : length (map (heard_rule see) plugins) ≡ plan.plugins = goes.valid_run.rules_are in
        let done : RunBy see as_ from made_from stuffing plugins made to made_to plan (closed_of plan (progress_of_stages state)) = record {
          list = chosen.list;
          is_list = is-list see begun goes.valid_run laws parts goes.visits goes.part goes.lists by chosen.list gives;
          closes = at.pure_or_fault;
          input = left-input see laws begun parts goes over chosen.list gives made_from
              (back.in_stream ∙ (ap stream_kind is-first ∙ ((by.stands 0 (omega arith)).input refl).stream))
              (back.in_leaves (goes.lists 0) (state.stages 0).ended (stuffing_of stuffing) first-stands (ap stuffing_in is-first ∙ ((by.stands 0 (omega arith)).input refl).stuffing_is))
              (back.in_read (goes.lists 0) (state.stages 0).ended (stuffing_of stuffing) first-stands (ap stuffing_in is-first ∙ ((by.stands 0 (omega arith)).input refl).stuffing_is));
          output = left-output see laws begun parts goes over chosen.list gives made_to
              (back.out_stream ∙ (ap stream_kind is-last ∙ ((by.stands (suc plan.plugins) (omega arith)).output refl).stream))
              (back.out_leaves (goes.lists (suc plan.plugins)) (state.stages (suc plan.plugins)).ended last-stands);
          gave = gave-of see laws begun parts goes over;
          gave_to = gave-to see laws begun parts goes over chosen.list gives;
          input_gave = made-input see laws begun parts goes over chosen.list gives;
          met = met-all see laws begun parts goes over chosen.list gives as_ stands 0 rest made taken (omega arith) same;
          memory = wants-of see laws begun parts goes over chosen.list gives;
          rules = rules-all see laws begun parts goes over 0 (map (heard_rule see) plugins) rest made taken (many ∙ sym rules-length) (omega arith) same
              (λ i lt. ap (rule_after (map (heard_rule see) plugins)) (let e : 0 + i ≡ i = omega arith in e));
        } in
        subst (λ (c : Closed). ClosedBy as_ goes.visits from made_from stuffing plugins made to made_to plan c) (sym closed-is)
        (record {
          run = done;
          kept = kept-of see begun goes.valid_run laws parts goes.visits goes.part goes.lists by chosen.list gives;
          gave = given-cut see laws begun parts goes over chosen.list gives;
        })

    pub run-of : (from made_from : InputPart S) (stuffing : Stuffing) (plugins made : List (Heard P)) (to made_to : OutputPart K) (plan : CorePlan) (closed : Closed) (parts : List (StagePart S K P))
        → HasClosed see (began_with see from stuffing plugins to plan) parts closed
        → GaveBack see parts made_from made made_to
        → RunOf see from made_from stuffing plugins made to made_to plan closed
    run-of from made_from stuffing plugins made to made_to plan closed parts has back =
        (run-by from made_from stuffing plugins made to made_to plan closed parts (λ _. 0) (heard_stands see)
        (λ j plugin history mark since. all-since see.rule see.stands plugin history mark 0 refl since) has back).run

    -- the same where lines were taken away
    pub closes-told : (from made_from : InputPart S) (stuffing : Stuffing) (plugins made : List (Heard P)) (to made_to : OutputPart K) (plan : CorePlan) (closed : Closed) (parts : List (StagePart S K P)) (told : ℕ → ℕ)
        → (has : HasClosed see (told_to (began_with see from stuffing plugins to plan) told) parts closed)
        → GaveBack see parts made_from made made_to
        → ClosesTold see told has.ran.visits from made_from stuffing plugins made to made_to plan closed
    closes-told from made_from stuffing plugins made to made_to plan closed parts told has back =
        let done = run-by from made_from stuffing plugins made to made_to plan closed parts told (HeardSinceOne see told) (λ j plugin history mark since. (j, since)) has back in
        record { run = done.run; kept = done.kept; gave = done.gave }
