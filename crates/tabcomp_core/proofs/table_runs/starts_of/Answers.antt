use Rattle.std.proofs.Common.{◌+◌, ◌++◌, [], ◌∷◌, arith, refl, ap, ◌∙◌}
use Rattle.tabcomp_core.proofs.StartLemmas.{front_within, next_start, first_start, starts_more}
use Rattle.tabcomp_core.proofs.table_runs.starts_of.Goals as goal

pub overflow_add-offset : goal.overflow_add-offset
overflow_add-offset c =
    let at = c.loop-section in
    let next = next_start c.args.sections.now at.section-index at.offset c.section-item.result c.bytes.result.now c.loop-section-test.true c.section-item.is c.bytes.ensures.same at.invariant.offset in
    record { fits = omega (arith, next, front_within c.args.sections.now (at.section-index + 1), c.requires) }

pub loop-section-init : goal.loop-section-init
loop-section-init c = record {
  told = first_start c.args.sections.now c.push.new.self.items (c.in_ok-push.ensures.items ∙ ap (λ l. l ++ 0 ∷ []) c.new-starts.ensures.items);
  offset = refl;
}

pub loop-section-preserved : goal.loop-section-preserved
loop-section-preserved c =
    let at = c.loop-section in
    let next = next_start c.args.sections.now at.section-index at.offset c.section-item.result c.bytes.result.now c.loop-section-test.true c.section-item.is c.bytes.ensures.same at.invariant.offset in
    record {
      told = starts_more c.args.sections.now at.section-index _ at.starts.items c.push-in-loop-section.new.self.items at.invariant.told next c.in_ok-push-2.ensures.items;
      offset = next;
    }

pub returns : goal.returns
returns c =
    let at = c.loop-section in
    record {
      each = λ k within. at.invariant.told.each k (omega (arith, within, c.loop-section-test.false));
      count = omega (arith, at.invariant.told.count, c.loop-section-test.false, at.auto.section-index-end);
    }
