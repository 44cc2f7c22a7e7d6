use Rattle.std.proofs.Common.{◌∙◌, map, ap}
use Rattle.serde_json.proofs.Views.{view-Array}
use Rattle.ts_fields.specs.Layout.{held, rows_of}
use Rattle.ts_table_rows.specs.TablePages.{table_page}
use Rattle.ts_table_rows.specs.TableValues.{item_held, table_held}
use Rattle.ts_json_tables.specs.ElementRows.{element_rows}
use Rattle.ts_json_tables.specs.TableElements.{begins_with_zero, element_values}
use Rattle.ts_json_tables.proofs.FitLemmas.{fit_parts}
use Rattle.ts_json_tables.proofs.ShowLemmas.{element_fits, shown_with}
use Rattle.ts_json_tables.proofs.showing.laid_json.Goals as goal

pub children_json-requires : goal.children_json-requires
children_json-requires c = (fit_parts (table_page c.args.table.now.layout.now) (table_held c.args.table.now.held) c.requires.fits).items

pub element_json-requires : goal.element_json-requires
element_json-requires c =
    let p = table_page c.args.table.now.layout.now in
    let t = table_held c.args.table.now.held in
    let b = begins_with_zero p.one_zero t.body.items in
    shown_with (rows_of c.deref-2.result.now) (element_rows p b) (map held c.deref-3.result.now) (element_values p t)
    (ap rows_of c.deref-2.ensures.value ∙ c.in_ok-rows.ensures ∙ ap (element_rows p) (c.begins_with_zero-network.ensures ∙ ap (λ l. begins_with_zero p.one_zero (map item_held l)) c.deref.ensures.value))
    (ap (map held) c.deref-3.ensures.value ∙ c.in_ok-values.ensures)
    (c.fit_is_shown.ensures (element_rows p b) (element_values p t) (element_fits p t c.requires))

pub returns : goal.returns
returns c =
    rw (c.deref-2.ensures.value, c.in_ok-rows.ensures, c.begins_with_zero-network.ensures, c.deref.ensures.value, c.deref-3.ensures.value, c.in_ok-values.ensures, view-Array c.in_ok-nodes.nodes, c.in_ok-nodes.ensures)
    at c.element_json.ensures
