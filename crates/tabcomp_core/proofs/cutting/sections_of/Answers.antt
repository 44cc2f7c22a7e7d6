use Rattle.std.proofs.Common.{◌∙◌, ℕ, List, length, drop, ap, arith, subst}
use Rattle.std.specs.Prelude.{Err}
use Rattle.std.proofs.lemmas.List.{length-drop, take_rest}
use Rattle.std.proofs.lemmas.Result.{err_from_is_err_and}
use Rattle.tabcomp_core.specs.Cutting.{CutsFront, sections_in}
use Rattle.tabcomp_core.proofs.CutLemmas.{cut_begin, cut_done, cut_goes_on, cut_refused, front_size, sections_joined, with_front}
use Rattle.tabcomp_core.proofs.cutting.sections_of.Goals as goal

pub loop-offset-init : goal.loop-offset-init
loop-offset-init c = record {
  within = omega arith;
  read = ap (λ l. with_front l (sections_in c.args.bytes.now)) c.new-sections.ensures.items ∙ cut_begin (sections_in c.args.bytes.now);
}

pub returns-in_err-section-clause-cut : goal.returns-in_err-section-clause-cut
returns-in_err-section-clause-cut c =
    let p = err_from_is_err_and c.from_residual.result c.from_residual.ensures.1 in
    let P : List ℕ → Type 0 = λ l. CutsFront c.loop-offset.offset l {X = List ℕ} (λ s. s) (Err c.in_err-section.field-0.0) in
    let cut = subst P (take_rest c.args.bytes.now c.loop-offset.offset) c.in_err-section.ensures in
    rw (p.1, p.2) (cut_refused c.args.bytes.now c.loop-offset.offset c.loop-offset.sections.items c.in_err-section.field-0.0 _ c.loop-offset-test.true cut c.loop-offset.invariant.read)

pub loop-offset-preserved : goal.loop-offset-preserved
loop-offset-preserved c =
    let cut = rw (take_rest c.args.bytes.now c.loop-offset.offset) at c.in_ok-section.ensures in
    record {
      within = omega (arith, c.size_of-offset.ensures.size, ap length cut.1, front_size (drop c.loop-offset.offset c.args.bytes.now), length-drop c.loop-offset.offset c.args.bytes.now, c.loop-offset-test.true);
      read =
          rw (c.in_ok-push.ensures.items, c.size_of-offset.ensures.size) (cut_goes_on c.args.bytes.now c.loop-offset.offset c.in_ok-section.section c.loop-offset.sections.items _ c.loop-offset-test.true cut.0 cut.1 c.loop-offset.invariant.read);
    }

pub returns-clause-cut : goal.returns-clause-cut
returns-clause-cut c = cut_done c.args.bytes.now c.loop-offset.offset c.loop-offset.sections.items _ c.loop-offset-test.false c.loop-offset.invariant.read

pub returns-clause-joined : goal.returns-clause-joined
returns-clause-joined c =
    sections_joined c.args.bytes.now c.loop-offset.sections.items
    (cut_done c.args.bytes.now c.loop-offset.offset c.loop-offset.sections.items _ c.loop-offset-test.false c.loop-offset.invariant.read)
