use Rattle.std.proofs.Common.{ℕ, ◌++◌, List, ap, ◌∙◌}
use Rattle.std.specs.List.{flat_map}
use Rattle.ts_packet.specs.Cells.{live_packets}
use Rattle.plugin_notes.specs.PidPackets.{numbers_below}
use Rattle.plug_info_texts.specs.InfoJson.{after_comma}
use Rattle.plug_info_texts.proofs.JsonLemmas.{flat_flat}
use Rattle.plug_info_state.specs.BatsInForce.{bat_of}
use Rattle.plug_info.specs.NetworkNames.{bouquet_objects, objects_of}
use Rattle.plug_info.proofs.network_names.bouquets_json.Goals as goal

pub returns : goal.returns
returns c = λ cells w.
    c.in_ok-text.ensures (objects_of (live_packets cells))
    (c.deref.ensures
    ∙ (c.in_ok-push_objects.ensures cells w
    ∙ (ap (λ (z : List ℕ). z ++ flat_map (λ id. flat_map after_comma (bouquet_objects (bat_of id (live_packets cells)))) (numbers_below 65536)) c.new-items.ensures.bytes
    ∙ flat_flat after_comma (λ id. bouquet_objects (bat_of id (live_packets cells))) (numbers_below 65536))))
