use Rattle.std.proofs.Common.{◌++◌, ◌∙◌, map, ap, sym}
use Rattle.ts_fields.specs.Fitting.{are_bytes}
use Rattle.ts_fields.specs.Layout.{held}
use Rattle.ts_table_rows.specs.TablePages.{table_page}
use Rattle.ts_table_rows.specs.BodySpelling.{spell_parts}
use Rattle.ts_table_rows.proofs.write_rows.body_bytes.Goals as goal

pub returns : goal.returns
returns c =
    let spelled = spell_parts (table_page c.args.layout.now) (map held c.args.values.now) c.args.own.now c.args.items.now in
    c.written_rows_are_whole.ensures.bytes c.into_bytes-row.result.items spelled
    (sym (ap are_bytes c.deref.ensures.value) ∙ c.bytes_are_small.ensures)
    (c.into_bytes-row.ensures ∙ c.in_ok-put_parts.ensures ∙ ap (λ l. l ++ spelled) c.new-out.ensures)
