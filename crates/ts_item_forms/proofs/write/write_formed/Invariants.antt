use Rattle.std.proofs.Common.{◌≡◌, ◌++◌, take, drop, map, true}
use Rattle.std.specs.List.{flat_map, list_all}
use Rattle.ts_fields.specs.Bits.{bits_of}
use Rattle.ts_fields.specs.Layout.{held, rows_of}
use Rattle.ts_fields.specs.Spelling.{spell_rows}
use Rattle.ts_item_forms.specs.ItemForms as forms
use Rattle.ts_item_forms.specs.ItemForms.{is_writable, item_held, spell_item}
use Rattle.ts_item_forms.proofs.write.write_formed.Given as goal

abbrev pub invariant-loop-item : goal.invariant-loop-item
invariant-loop-item l = record {
  writable : list_all is_writable (map (item_held (forms.form l.form)) (drop l.item-index l.body.items.items)) ≡ true;
  written : bits_of l.bytes.items ≡ spell_rows (rows_of l.layout.head.now) (map held l.body.head.items) ++ flat_map spell_item (map (item_held (forms.form l.form)) (take l.item-index l.body.items.items));
}
