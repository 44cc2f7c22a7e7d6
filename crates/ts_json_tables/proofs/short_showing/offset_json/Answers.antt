use Rattle.std.proofs.Common.{◌∙◌, map, ap}
use Rattle.serde_json.proofs.Views.{view-Array}
use Rattle.ts_fields.specs.Layout.{held, rows_of}
use Rattle.ts_json_tables.specs.TableElements.{descrs_shown}
use Rattle.ts_json_tables.specs.TimeOffsets.{offset_held, tot_rows}
use Rattle.ts_json_tables.proofs.ShowLemmas.{shown_with}
use Rattle.ts_json_tables.proofs.short_showing.offset_json.Goals as goal

pub element_json-requires : goal.element_json-requires
element_json-requires c =
    let values = (offset_held c.args.offset.now).values in
    shown_with (rows_of c.tot_fields.result.now) tot_rows (map held c.deref.result.now) values c.tot_fields.ensures
    (ap (map held) c.deref.ensures.value) (c.fit_is_shown.ensures tot_rows values c.requires)

pub returns : goal.returns
returns c =
    rw (c.tot_fields.ensures, c.deref.ensures.value, view-Array c.in_ok-nodes.nodes, c.in_ok-nodes.ensures ∙ ap descrs_shown c.as_slice.ensures)
    at c.element_json.ensures
