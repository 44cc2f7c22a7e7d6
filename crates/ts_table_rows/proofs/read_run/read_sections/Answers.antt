use Rattle.std.proofs.Common.{◌+◌, drop, sym, ap, ◌∙◌, arith, subst}
use Rattle.std.proofs.lemmas.Result.{err_from_is_err_and}
use Rattle.ts_table_rows.specs.BodyReading.{seen_so_far}
use Rattle.ts_table_rows.specs.RunReading as reading
use Rattle.ts_table_rows.specs.RunReading.{Breaks}
use Rattle.ts_table_rows.specs.TablePages.{table_page}
use Rattle.ts_table_rows.specs.TableValues.{body_held}
use Rattle.ts_table_rows.proofs.RunLemmas.{with_body, goes_on, stops_at, done, begins, begins_not}
use Rattle.ts_table_rows.proofs.read_run.read_sections.Goals as goal

pub returns-in_err-body : goal.returns-in_err-body
returns-in_err-body c =
    let p = err_from_is_err_and c.from_residual.result c.from_residual.ensures.1 in
    rw (p.1, p.2) (begins_not c.in_err-body.field-0.0 (table_page c.args.layout.now) reading.unseen 0 c.args.first.now c.args.others.now c.in_err-body.ensures)

pub loop-section-init : goal.loop-section-init
loop-section-init c = record {
  same = omega arith;
  read = begins (table_page c.args.layout.now) reading.unseen (seen_so_far c.in_ok-body.seen) 0 c.args.first.now c.args.others.now (body_held c.in_ok-body.body) c.in_ok-body.ensures;
}

pub returns-in_err-next : goal.returns-in_err-next
returns-in_err-next c =
    let p = err_from_is_err_and c.from_residual-in_err-next.result c.from_residual-in_err-next.ensures.1 in
    rw (p.1, p.2)
    (stops_at c.in_err-next.field-0.0 (table_page c.args.layout.now) (seen_so_far c.loop-section.seen) (c.loop-section.section-index + 1) c.loop-section.section-index (body_held c.loop-section.body) c.args.others.now c.section-item.result _
    c.loop-section-test.true c.section-item.is c.loop-section.invariant.read
    (subst (λ k. Breaks c.in_err-next.field-0.0 (reading.read_section (table_page c.args.layout.now) (seen_so_far c.loop-section.seen) k c.section-item.result)) c.loop-section.invariant.same c.in_err-next.ensures))

pub loop-section-preserved : goal.loop-section-preserved
loop-section-preserved c = record {
  same = omega (arith, c.loop-section.invariant.same);
  read =
      ap (λ b. with_body b (reading.read_sections (table_page c.args.layout.now) (seen_so_far c.in_ok-next.now) (c.loop-section.section-index + 1 + 1) (drop (c.loop-section.section-index + 1) c.args.others.now))) c.in_ok-body-2.ensures
      ∙ (goes_on (table_page c.args.layout.now) (seen_so_far c.loop-section.seen) (seen_so_far c.in_ok-next.now) (c.loop-section.section-index + 1) c.loop-section.section-index (body_held c.loop-section.body) c.args.others.now c.section-item.result (body_held c.in_ok-next.next) _
      c.loop-section-test.true c.section-item.is
      (sym (ap (λ k. reading.read_section (table_page c.args.layout.now) (seen_so_far c.loop-section.seen) k c.section-item.result) c.loop-section.invariant.same) ∙ c.in_ok-next.ensures)
      c.loop-section.invariant.read);
}

pub returns : goal.returns
returns c =
    done (table_page c.args.layout.now) (seen_so_far c.loop-section.seen) (c.loop-section.section-index + 1) c.loop-section.section-index (body_held c.loop-section.body) c.args.others.now _ c.loop-section-test.false c.loop-section.invariant.read
