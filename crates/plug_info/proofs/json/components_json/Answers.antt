use Rattle.std.proofs.Common.{ℕ, ◌++◌, List, map, ap, ◌∙◌}
use Rattle.std.specs.Prelude.{option_map}
use Rattle.std.specs.List.{flat_map}
use Rattle.std.specs.Option.{option_copied}
use Rattle.ts_psi.specs.PsiTables.{component_item, pmt_held}
use Rattle.plug_info_texts.specs.InfoJson.{after_comma}
use Rattle.plug_info.specs.InfoRule.{component_object}
use Rattle.named_services.specs.SdtInForce.{items_in}
use Rattle.plug_info.proofs.JsonLemmas.{flat_map_map}
use Rattle.plug_info.proofs.json.components_json.Goals as goal

pub returns : goal.returns
returns c = λ cells w s.
    let those = c.components_of.result.now in
    c.in_ok-text.ensures (map (component_object cells) (items_in (option_map pmt_held (option_copied c.args.pmt))))
    (c.deref.ensures
    ∙ (c.in_ok-push_components.ensures cells w s
    ∙ (ap (λ (z : List ℕ). z ++ flat_map (λ x. after_comma (component_object cells (component_item x))) those) c.new-items.ensures.bytes
    ∙ (flat_map_map (λ x. after_comma (component_object cells x)) component_item those
    ∙ (ap (flat_map (λ x. after_comma (component_object cells x))) c.components_of.ensures
    ∙ flat_map_map after_comma (component_object cells) (items_in (option_map pmt_held (option_copied c.args.pmt))))))))
