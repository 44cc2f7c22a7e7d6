use Rattle.std.proofs.Common.{◌∙◌, map, ap}
use Rattle.serde_json.proofs.Views.{view-Array}
use Rattle.ts_fields.specs.Layout.{held, rows_of}
use Rattle.ts_json_tables.specs.ElementRows.{is_eit_id, long_rows}
use Rattle.ts_json_tables.specs.HeldTables.{long_held}
use Rattle.ts_json_tables.specs.TableElements.{long_values}
use Rattle.ts_json_tables.proofs.ShowLemmas.{long_is_shown, shown_with}
use Rattle.ts_json_tables.proofs.showing.long_json.Goals as goal

pub element_json-requires : goal.element_json-requires
element_json-requires c =
    shown_with _ (long_rows (is_eit_id c.args.table.now.table_id)) _ (long_values (long_held c.args.table.now)) (ap rows_of c.deref-2.ensures.value ∙ c.in_ok-rows.ensures ∙ ap long_rows c.is_eit_id.ensures)
    (ap (map held) c.deref-3.ensures.value ∙ c.in_ok-values.ensures) (long_is_shown (long_held c.args.table.now))

pub returns : goal.returns
returns c =
    rw (c.deref-2.ensures.value, c.in_ok-rows.ensures, c.is_eit_id.ensures, c.deref-3.ensures.value, c.in_ok-values.ensures, view-Array c.in_ok-nodes.nodes, c.in_ok-nodes.ensures, c.deref.ensures.value)
    at c.element_json.ensures
