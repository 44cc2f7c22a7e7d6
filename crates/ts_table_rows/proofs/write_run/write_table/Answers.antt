use Rattle.std.proofs.Common.{◌≡◌, ℕ, Ok, Vec, Global, map, refl, sym, ap, ◌∙◌, subst}
use Rattle.std.proofs.lemmas.Result.{err_from_is_err_and}
use Rattle.std.proofs.lemmas.Bool.{and_parts}
use Rattle.ts_fields.specs.Layout.{held}
use Rattle.ts_table_rows.specs.FilledRows.{thing_view, rows_by}
use Rattle.ts_table_rows.specs.TableFitting.{head_fits, body_fits}
use Rattle.ts_table_rows.specs.TablePages.{table_page}
use Rattle.ts_table_rows.specs.TableSections.{IsRefusal, body_rows, sections_with, sections_of}
use Rattle.ts_table_rows.specs.TableValues.{body_held, table_held}
use Rattle.ts_table_rows.proofs.SizeLemmas.{parts_of_sound}
use Rattle.ts_table_rows.proofs.BodyLemmas.{sections_go_on, sections_stop, rows_same, bodies_serve}
use Rattle.ts_table_rows.proofs.write_run.write_table.Goals as goal

pub returns-in_err-bodies-clause-written : goal.returns-in_err-bodies-clause-written
returns-in_err-bodies-clause-written c =
    let e = err_from_is_err_and c.from_residual-in_err-bodies.result c.from_residual-in_err-bodies.ensures.1 in
    let p = table_page c.args.layout.now in
    let b = body_held c.args.table.now.body in
    let same : rows_by p (map held c.deref.result.now) (map thing_view c.deref-2.result.now) ≡ body_rows p b =
    rows_same p b c.args.table.now.body.values.items c.deref.result.now c.in_ok-rows.rows.items c.deref-2.result.now c.deref.ensures.value c.deref-2.ensures.value refl c.in_ok-rows.ensures.rows in
    rw (e.1, e.2) (sections_stop p (table_held c.args.table.now) c.in_err-bodies.field-0.0 (subst (IsRefusal c.in_err-bodies.field-0.0) same c.in_err-bodies.ensures))

pub number_sections-requires : goal.number_sections-requires
number_sections-requires c =
    let p = table_page c.args.layout.now in
    let fit = and_parts (head_fits p c.args.table.now.head) (body_fits p (body_held c.args.table.now.body)) c.requires.fits in
    let serve = bodies_serve p c.in_ok-bodies.bodies.items c.deref-3.result.now c.deref-3.ensures.value (parts_of_sound p c.requires.sound).keeps
    (c.bodies_are_filled.ensures.small p (map held c.deref.result.now) (map thing_view c.deref-2.result.now) (map (λ (row : Vec ℕ Global). row.items) c.in_ok-bodies.bodies.items) c.requires.sound c.in_ok-bodies.ensures) in
    record { head = fit.0; some = serve.0; one = serve.1; small = serve.2 }

pub returns-in_err-sections-clause-written : goal.returns-in_err-sections-clause-written
returns-in_err-sections-clause-written c =
    let e = err_from_is_err_and c.from_residual-in_err-sections.result c.from_residual-in_err-sections.ensures.1 in
    let p = table_page c.args.layout.now in
    let b = body_held c.args.table.now.body in
    let same : rows_by p (map held c.deref.result.now) (map thing_view c.deref-2.result.now) ≡ body_rows p b =
    rows_same p b c.args.table.now.body.values.items c.deref.result.now c.in_ok-rows.rows.items c.deref-2.result.now c.deref.ensures.value c.deref-2.ensures.value refl c.in_ok-rows.ensures.rows in
    let bodies : body_rows p b ≡ Ok (map (λ (row : Vec ℕ Global). row.items) c.in_ok-bodies.bodies.items) = sym same ∙ c.in_ok-bodies.ensures in
    let there : map (λ (row : Vec ℕ Global). row.items) c.deref-3.result.now ≡ map (λ (row : Vec ℕ Global). row.items) c.in_ok-bodies.bodies.items =
    ap (map (λ (row : Vec ℕ Global). row.items)) c.deref-3.ensures.value in
    let whole : sections_of p (table_held c.args.table.now) ≡ sections_with p c.args.table.now.head (map (λ (row : Vec ℕ Global). row.items) c.deref-3.result.now) =
    sections_go_on p (table_held c.args.table.now) _ bodies ∙ ap (sections_with p c.args.table.now.head) (sym there) in
    rw (e.1, e.2) (subst (IsRefusal c.in_err-sections.field-0.0) (sym whole) c.in_err-sections.ensures)

pub returns-clause-written : goal.returns-clause-written
returns-clause-written c =
    let p = table_page c.args.layout.now in
    let b = body_held c.args.table.now.body in
    let same : rows_by p (map held c.deref.result.now) (map thing_view c.deref-2.result.now) ≡ body_rows p b =
    rows_same p b c.args.table.now.body.values.items c.deref.result.now c.in_ok-rows.rows.items c.deref-2.result.now c.deref.ensures.value c.deref-2.ensures.value refl c.in_ok-rows.ensures.rows in
    let bodies : body_rows p b ≡ Ok (map (λ (row : Vec ℕ Global). row.items) c.in_ok-bodies.bodies.items) = sym same ∙ c.in_ok-bodies.ensures in
    let there : map (λ (row : Vec ℕ Global). row.items) c.deref-3.result.now ≡ map (λ (row : Vec ℕ Global). row.items) c.in_ok-bodies.bodies.items =
    ap (map (λ (row : Vec ℕ Global). row.items)) c.deref-3.ensures.value in
    let whole : sections_of p (table_held c.args.table.now) ≡ sections_with p c.args.table.now.head (map (λ (row : Vec ℕ Global). row.items) c.deref-3.result.now) =
    sections_go_on p (table_held c.args.table.now) _ bodies ∙ ap (sections_with p c.args.table.now.head) (sym there) in
    whole ∙ c.in_ok-sections.ensures

pub returns-clause-again : goal.returns-clause-again
returns-clause-again c = c.written_tables_are_read.ensures.again (table_page c.args.layout.now) (table_held c.args.table.now) c.requires.sound c.requires.fits c.in_ok-rows.ensures.fit c.in_ok-sections.sections.items (returns-clause-written c)

pub returns-clause-whole : goal.returns-clause-whole
returns-clause-whole c =
    λ runs. c.written_tables_are_read.ensures.whole (table_page c.args.layout.now) (table_held c.args.table.now) c.requires.sound runs c.requires.fits c.in_ok-rows.ensures.fit c.in_ok-sections.sections.items (returns-clause-written c)
