use Rattle.std.proofs.Common.{◌≡◌, ◌∙◌, ◌∷◌, ◌++◌, [], ℕ, List, ap, arith, length, sym}
use Rattle.std.proofs.lemmas.Bool.{eqb-true, eqb-false}
use Rattle.std.proofs.lemmas.List.{length-append}
use Rattle.std.proofs.lemmas.Result.{err_from_is_err_and}
use Rattle.tabcomp_core.specs.Dividing.{is_full}
use Rattle.tabcomp_core.proofs.DivideLemmas.{end_stops, loop_closes, loop_done, loop_stops, some_there, stop_told}
use Rattle.tabcomp_core.proofs.dividing.runs_of.Goals as goal

pub returns-in_err-run-clause-divided : goal.returns-in_err-run-clause-divided
returns-in_err-run-clause-divided c =
    let p = err_from_is_err_and c.from_residual-in_err-run.result c.from_residual-in_err-run.ensures.1 in
    let at = c.loop-section in
    let run : List (List ℕ) = c.replace-whole.result.items in
    let grown = ap (λ v. v.items) c.replace-whole.ensures.value ∙ c.in_ok-push.ensures.items in
    let full = ap is_full (ap (λ v. v.items) c.replace-whole.ensures.value) ∙ sym (ap is_full c.deref.ensures.value) ∙ sym c.is_full.ensures ∙ c.if-is_full.true in
    rw (p.1, p.2) (stop_told (λ r. r) c.in_err-run.field-0.0 at.place run _ c.in_err-run.ensures
    (λ within fault. loop_stops at.runs.items at.place within at.begun.items run _ _ c.in-Some.section _ at.invariant.divided c.in-Some.ensures.steps.0 grown at.invariant.begins full fault))

pub loop-section-preserved-then-is_full : goal.loop-section-preserved-then-is_full
loop-section-preserved-then-is_full c =
    let at = c.loop-section in
    let run : List (List ℕ) = c.replace-whole.result.items in
    let next = c.in-Some.ensures.steps.0 in
    let grown = ap (λ v. v.items) c.replace-whole.ensures.value ∙ c.in_ok-push.ensures.items in
    let empty = ap (λ v. v.items) c.replace-whole.ensures.after ∙ c.new.ensures.items in
    let size : c.len-size.result ≡ length run = omega (arith, c.len-size.ensures) in
    let was = at.invariant.count in
    let gone = c.in-Some.ensures.steps.1 in
    let short = ap length next in
    record {
      divided = loop_closes at.runs.items _ at.place c.len-size.result at.begun.items run _ _ _ c.in-Some.section _ at.invariant.divided next grown c.in_ok-run.ensures.1 (c.in_ok-push-2.ensures.items ∙ ap (λ r. at.runs.items ++ r ∷ []) c.in_ok-run.ensures.0) size empty;
      begins = rw empty tt;
      count = omega (arith, was, gone, short);
      all = omega (arith, at.invariant.all, short, ap length empty, ap length grown, size, length-append at.begun.items (c.in-Some.section ∷ []));
    }

pub returns-then-is_empty-clause-divided : goal.returns-then-is_empty-clause-divided
returns-then-is_empty-clause-divided c =
    let at = c.loop-section in
    let none = eqb-true _ 0 (sym c.is_empty.ensures ∙ c.if-is_empty.true) in
    loop_done at.runs.items at.place at.begun.items _ _ (omega (arith, none)) (omega (arith, at.invariant.count, c.in-None.ensures.steps.0)) at.invariant.divided

pub returns-in_err-run-2-clause-divided : goal.returns-in_err-run-2-clause-divided
returns-in_err-run-2-clause-divided c =
    let p = err_from_is_err_and c.from_residual-in_err-run-2.result c.from_residual-in_err-run-2.ensures.1 in
    let at = c.loop-section in
    let some : length at.begun.items ≡ 0 → ⊥ = λ none. eqb-false _ 0 (sym c.is_empty.ensures ∙ c.if-is_empty.false) (omega (arith, none)) in
    rw (p.1, p.2) (stop_told (λ r. r) c.in_err-run-2.field-0.0 at.place at.begun.items _ c.in_err-run-2.ensures
    (λ within fault. end_stops at.runs.items at.place within at.begun.items _ _ (some_there at.begun.items some) (omega (arith, at.invariant.count, c.in-None.ensures.steps.0)) at.invariant.begins at.invariant.divided fault))
