use Rattle.std.proofs.Common.{rules, map, ap, ◌∙◌}
use Rattle.std.specs.Prelude.{not}
use Rattle.std.specs.List.{list_all}
use Rattle.std.proofs.lemmas.Fn.{filter_same}
use Rattle.ts_table_rows.specs.TableValues.{item_held}
use Rattle.ts_psi.specs.PatTables.{is_network, service_serves}
use Rattle.ts_psi.proofs.EntryLemmas.{services_held, services_serve}
use Rattle.ts_psi.proofs.entries.services_of.Goals as goal

pub read-requires : goal.read-requires
read-requires c =
    ap (λ l. list_all service_serves (map item_held l)) (filter_same _ (λ i. not (is_network (item_held i))) _ (λ x b f' k. search rules) _ _ c.retain.ensures.filtered)
    ∙ ap (list_all service_serves) (services_held c.args.items.items) ∙ services_serve (map item_held c.args.items.items) c.requires

pub returns : goal.returns
returns c =
    c.in_ok-services.ensures
    ∙ ap (map item_held) (filter_same _ (λ i. not (is_network (item_held i))) _ (λ x b f' k. search rules) _ _ c.retain.ensures.filtered) ∙ services_held c.args.items.items
