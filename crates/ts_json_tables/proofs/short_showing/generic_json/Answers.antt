use Rattle.std.proofs.Common.{◌∙◌, map, ap}
use Rattle.ts_fields.specs.Layout.{held}
use Rattle.ts_json_tables.specs.ElementRows.{short_rows}
use Rattle.ts_json_tables.specs.HeldTables.{short_held}
use Rattle.ts_json_tables.specs.TableElements.{short_values}
use Rattle.ts_json_tables.proofs.ShowLemmas.{short_is_shown, shown_with}
use Rattle.ts_json_tables.proofs.short_showing.generic_json.Goals as goal

pub element_json-requires : goal.element_json-requires
element_json-requires c =
    shown_with _ short_rows _ (short_values (short_held c.args.table.now)) c.short_rows.ensures
    (ap (map held) c.deref.ensures.value ∙ c.in_ok-values.ensures) (short_is_shown (short_held c.args.table.now))

pub returns : goal.returns
returns c = rw (c.short_rows.ensures, c.deref.ensures.value, c.in_ok-values.ensures) at c.element_json.ensures
