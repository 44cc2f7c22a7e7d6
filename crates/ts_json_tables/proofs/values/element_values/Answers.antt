use Rattle.std.proofs.Common.{◌≡◌, ◌∙◌, ◌∷◌, [], ◌++◌, ap, sym, map, take, drop}
use Rattle.std.proofs.lemmas.List.{take-map, drop-map}
use Rattle.ts_fields.specs.Layout.{held, number}
use Rattle.ts_table_rows.specs.BodySpelling.{held_count}
use Rattle.ts_table_rows.specs.TablePages.{table_page}
use Rattle.ts_table_rows.specs.TableValues.{item_held}
use Rattle.ts_json_tables.specs.TableElements.{extension_values, id_values, kept_values, network_values, truth}
use Rattle.ts_json_tables.proofs.ValueLemmas.{values_joined}
use Rattle.ts_json_tables.proofs.values.element_values.Goals as goal

pub returns : goal.returns
returns c =
    let head = c.args.table.now.head in
    let layout = c.args.layout.now in
    let vs = c.deref.result.now in
    let n = c.held_count.result in
    let first : map held c.parted.result.0.now ≡ take (held_count (table_page layout).common) (map held c.args.table.now.body.values.items) =
    ap (map held) c.parted.ensures.first ∙ sym (take-map held n vs) ∙ ap (λ k. take k (map held vs)) c.held_count.ensures.count
    ∙ ap (λ l. take (held_count (table_page layout).common) (map held l)) c.deref.ensures.value in
    let others : map held c.parted.result.1.now ≡ drop (held_count (table_page layout).common) (map held c.args.table.now.body.values.items) =
    ap (map held) c.parted.ensures.others ∙ sym (drop-map held n vs) ∙ ap (λ k. drop k (map held vs)) c.held_count.ensures.count
    ∙ ap (λ l. drop (held_count (table_page layout).common) (map held l)) c.deref.ensures.value in
    values_joined (number head.version) (truth head.current) (id_values layout.ids.now head.table_id) (extension_values layout.extension.now head.extension) (take (held_count (table_page layout).common) (map held c.args.table.now.body.values.items)) (kept_values head.numbers) (drop (held_count (table_page layout).common) (map held c.args.table.now.body.values.items)) (network_values layout.one_zero (map item_held c.args.table.now.body.items.items))
    (map held c.push_number.new.values.items) (map held c.push_truth.new.values.items) (map held c.push_id.new.values.items) (map held c.push_extension.new.values.items) (map held c.push_copies.new.values.items) (map held c.push_kept.new.values.items) (map held c.push_copies-2.new.values.items) (map held c.push_network.new.values.items)
    (c.in_ok-push_number.ensures ∙ ap (λ l. map held l ++ number c.from.result ∷ []) c.new-values.ensures.items ∙ ap (λ k. number k ∷ []) c.from.ensures)
    c.in_ok-push_truth.ensures c.in_ok-push_id.ensures c.in_ok-push_extension.ensures
    (c.in_ok-push_copies.ensures ∙ ap (λ l. map held c.push_extension.new.values.items ++ l) first)
    c.in_ok-push_kept.ensures
    (c.in_ok-push_copies-2.ensures ∙ ap (λ l. map held c.push_kept.new.values.items ++ l) others)
    (c.in_ok-push_network.ensures ∙ ap (λ l. map held c.push_copies-2.new.values.items ++ network_values layout.one_zero (map item_held l)) c.deref-2.ensures.value)
