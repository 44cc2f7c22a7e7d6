use Rattle.std.proofs.Common.{◌++◌, ◌∙◌, ap, sym}
use Rattle.ts_fields.specs.Fitting.{are_bytes}
use Rattle.ts_table_rows.specs.TablePages.{item_page}
use Rattle.ts_table_rows.specs.TableValues.{item_held}
use Rattle.ts_table_rows.specs.BodySpelling.{spell_item}
use Rattle.ts_table_rows.proofs.write_rows.item_bytes.Goals as goal

pub returns-clause-row : goal.returns-clause-row
returns-clause-row c =
    let spelled = spell_item (item_page c.args.form) (item_held c.args.item.now) in
    c.written_rows_are_whole.ensures.bytes c.into_bytes-row.result.items spelled
    (sym (ap are_bytes c.deref.ensures.value) ∙ c.bytes_are_small.ensures)
    (c.into_bytes-row.ensures ∙ c.in_ok-put_item.ensures.written ∙ ap (λ l. l ++ spelled) c.new-out.ensures)
