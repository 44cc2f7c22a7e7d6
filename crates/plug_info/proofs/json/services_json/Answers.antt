use Rattle.std.proofs.Common.{ℕ, ◌++◌, List, map, ap, ◌∙◌}
use Rattle.std.specs.List.{flat_map}
use Rattle.ts_packet.specs.Cells.{live_packets}
use Rattle.plug_psi.specs.InForce.{pat_of, services_in}
use Rattle.plug_info_texts.specs.InfoJson.{after_comma}
use Rattle.plug_info.specs.InfoRule.{service_object}
use Rattle.plug_info.proofs.JsonLemmas.{flat_map_map}
use Rattle.plug_info.proofs.json.services_json.Goals as goal

pub returns : goal.returns
returns c = λ cells w s.
    let those = services_in (pat_of (live_packets cells)) in
    c.in_ok-text.ensures (map (service_object cells) those)
    (c.deref.ensures
    ∙ (c.in_ok-push_services.ensures cells w s
    ∙ (ap (λ (z : List ℕ). z ++ flat_map (λ x. after_comma (service_object cells x)) those) c.new-items.ensures.bytes
    ∙ flat_map_map after_comma (service_object cells) those)))
