use Rattle.std.proofs.Common.{◌++◌, ap, sym, append-nil, ◌∙◌}
use Rattle.std.specs.List.{flat_map}
use Rattle.std.specs.String.{string_bytes}
use Rattle.ts_packet.specs.Cells.{live_packets}
use Rattle.plugin_notes.specs.PidPackets.{numbers_below}
use Rattle.plug_info_texts.specs.InfoJson.{after_comma}
use Rattle.plug_info_state.specs.BatsInForce.{bat_of}
use Rattle.plug_info.specs.NetworkNames.{bouquet_objects}
use Rattle.plug_info.proofs.ItemLemmas.{text_more}
use Rattle.plug_info.proofs.network_names.push_objects.Goals as goal

pub loop-id-init : goal.loop-id-init
unfolding numbers_below
loop-id-init c = λ cells w. sym (append-nil _)

pub loop-id-preserved : goal.loop-id-preserved
loop-id-preserved c = λ cells w.
    text_more (λ id. flat_map after_comma (bouquet_objects (bat_of id (live_packets cells)))) c.loop-id.id _ _ _ (c.loop-id.invariant cells w)
    (c.in_ok-push_object.ensures
    ∙ ap (λ bat. string_bytes c.loop-id.items ++ flat_map after_comma (bouquet_objects bat)) (c.bouquet.ensures cells w))
