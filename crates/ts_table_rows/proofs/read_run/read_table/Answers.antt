use Rattle.std.proofs.Common.{length, refl, sym, ap, ◌∙◌, subst}
use Rattle.std.specs.Prelude.{All}
use Rattle.ts_section.specs.ValidSection.{IsSection}
use Rattle.std.proofs.lemmas.Result.{err_from_is_err_and}
use Rattle.ts_table_rows.specs.TablePages.{table_page}
use Rattle.ts_table_rows.specs.TableValues.{body_held}
use Rattle.ts_table_rows.proofs.RunLemmas.{run_none, run_wrong, run_many, run_reads, run_stops}
use Rattle.ts_table_rows.proofs.read_run.read_table.Goals as goal

pub returns-in_default-clause-read : goal.returns-in_default-clause-read
returns-in_default-clause-read c =
    rw c.broken.ensures (run_none (table_page c.args.layout.now) c.args.run.now (sym (ap length c.sections.ensures.same) ∙ c.in_default.ensures.cases))

pub returns-in_default-table_head-clause-read : goal.returns-in_default-table_head-clause-read
returns-in_default-table_head-clause-read c =
    rw c.broken-in_default-table_head.ensures
    (run_wrong (table_page c.args.layout.now) c.args.run.now c.in-Some.first.now c.in-Some.others.now (sym c.sections.ensures.same ∙ c.in-Some.ensures.cases.0) (sym c.in_default-table_head.ensures))

pub returns-then-are_too_many-clause-read : goal.returns-then-are_too_many-clause-read
returns-then-are_too_many-clause-read c =
    rw c.broken-then-are_too_many.ensures
    (run_many (table_page c.args.layout.now) c.args.run.now c.in-Some.first.now c.in-Some.others.now c.in-Some-table_head.head (sym c.sections.ensures.same ∙ c.in-Some.ensures.cases.0) (sym c.in-Some-table_head.ensures) (sym c.if-are_too_many.ensures))

pub returns-in_err-body-clause-read : goal.returns-in_err-body-clause-read
returns-in_err-body-clause-read c =
    let p = err_from_is_err_and c.from_residual.result c.from_residual.ensures.1 in
    rw (p.1, p.2)
    (run_stops c.in_err-body.field-0.0 (table_page c.args.layout.now) c.args.run.now c.in-Some.first.now c.in-Some.others.now c.in-Some-table_head.head (sym c.sections.ensures.same ∙ c.in-Some.ensures.cases.0) (sym c.in-Some-table_head.ensures)
    (sym c.if-are_too_many.ensures) c.in_err-body.ensures)

pub returns-clause-read : goal.returns-clause-read
returns-clause-read c =
    run_reads (table_page c.args.layout.now) c.args.run.now c.in-Some.first.now c.in-Some.others.now c.in-Some-table_head.head (body_held c.in_ok-body.body) (sym c.sections.ensures.same ∙ c.in-Some.ensures.cases.0) (sym c.in-Some-table_head.ensures)
    (sym c.if-are_too_many.ensures) c.in_ok-body.ensures

pub returns-clause-fits : goal.returns-clause-fits
returns-clause-fits c =
    c.read_tables_fit.ensures (table_page c.args.layout.now) c.args.run.now _ (subst (All (λ s. IsSection s)) refl c.sections.ensures.valid) (returns-clause-read c)
