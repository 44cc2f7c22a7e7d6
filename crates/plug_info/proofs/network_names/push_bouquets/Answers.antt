use Rattle.std.proofs.Common.{◌++◌, ap, sym, append-nil, ◌∙◌}
use Rattle.ts_packet.specs.Cells.{live_packets}
use Rattle.plugin_notes.specs.PidPackets.{numbers_below}
use Rattle.plugin_trait.specs.PlacedLines.{placed_at}
use Rattle.plug_info_state.specs.BatsInForce.{bat_of}
use Rattle.plug_info.specs.NetworkNames.{bouquet_lines}
use Rattle.plug_info.proofs.LineLemmas.{lines_more}
use Rattle.plug_info.proofs.network_names.push_bouquets.Goals as goal

pub loop-id-init : goal.loop-id-init
unfolding numbers_below
loop-id-init c = λ cells w. sym (append-nil _)

pub loop-id-preserved : goal.loop-id-preserved
loop-id-preserved c = λ cells w.
    lines_more c.args.cut (λ id. bouquet_lines (bat_of id (live_packets cells))) c.loop-id.id c.args.lines.now.items c.loop-id.lines.items c.push_bouquet.new.lines.items
    (c.loop-id.invariant cells w)
    (c.in_ok-push_bouquet.ensures
    ∙ ap (λ bat. c.loop-id.lines.items ++ placed_at c.args.cut (bouquet_lines bat)) (c.bouquet.ensures cells w))
