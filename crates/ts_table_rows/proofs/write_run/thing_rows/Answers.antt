use Rattle.std.proofs.Common.{◌∙◌, ap, map}
use Rattle.ts_table_rows.specs.TablePages.{table_page}
use Rattle.ts_table_rows.specs.TableValues.{body_held, item_held}
use Rattle.ts_table_rows.specs.FilledRows.{item_kind_row}
use Rattle.ts_table_rows.specs.TableFitting.{items_fit}
use Rattle.ts_table_rows.proofs.NumberLemmas.{things_joined, body_parts}
use Rattle.ts_table_rows.proofs.write_run.thing_rows.Goals as goal

pub item_rows-requires-clause-fits : goal.item_rows-requires-clause-fits
item_rows-requires-clause-fits c =
    ap (λ l. items_fit (table_page c.args.layout.now).items (map item_held l)) c.deref.ensures.value
    ∙ (body_parts (table_page c.args.layout.now) (body_held c.args.body.now) c.requires.fits).items

pub returns-clause-rows : goal.returns-clause-rows
returns-clause-rows c =
    things_joined (table_page c.args.layout.now).items (body_held c.args.body.now) c.in_ok-rows.rows.items c.in_ok-items.items.items c.append.new.self.items c.in_ok-append.ensures.items c.in_ok-rows.ensures.rows
    (c.in_ok-items.ensures.rows ∙ ap (λ l. map (item_kind_row (table_page c.args.layout.now).items) (map item_held l)) c.deref.ensures.value)
