use Rattle.std.proofs.Common.{◌∙◌, ◌∷◌, ap, sym, map}
use Rattle.ts_table_rows.specs.TableValues.{item_held}
use Rattle.ts_json_tables.specs.RunTables.{zero_place}
use Rattle.ts_json_tables.proofs.ZeroLemmas.{zero_absent, zero_first}
use Rattle.ts_json_tables.proofs.runs.put_zero_first.Goals as goal

pub returns-in_default : goal.returns-in_default
returns-in_default c =
    zero_absent (map item_held c.args.items.now.items)
    (sym c.in_default.is ∙ c.zero_place.ensures.place ∙ ap (λ l. zero_place (map item_held l)) c.deref.ensures.value)

pub returns : goal.returns
returns c =
    ap (map item_held) (c.in_ok-insert.ensures.items ∙ ap (λ l. c.remove-item.result ∷ l) c.remove-item.ensures.items)
    ∙ zero_first c.args.items.now.items c.in-Some.place c.remove-item.result
    (sym (c.zero_place.ensures.place ∙ ap (λ l. zero_place (map item_held l)) c.deref.ensures.value) ∙ c.in-Some.is)
    (rw c.deref.ensures.value at c.in-Some.ensures.within) c.remove-item.ensures.value c.requires
