use Rattle.std.proofs.Common.{◌≡◌, ◌∷◌, [], ◌++◌, List, ℕ, map, ap, ◌∙◌}
use Rattle.plugin_trait.specs.PlacedLines.{placed_at}
use Rattle.ts_packet.specs.Cells.{live_packets}
use Rattle.ts_psi.specs.PsiTables.{component_item}
use Rattle.plug_psi.specs.InForce.{pmt_of}
use Rattle.plug_info.specs.InfoRule.{component_line, service_line}
use Rattle.named_services.specs.SdtInForce.{items_in}
use Rattle.plug_info.proofs.LineLemmas.{map_map, pushed_after}
use Rattle.plug_info.proofs.summary.push_service.Goals as goal

pub returns : goal.returns
returns c = λ cells w s.
    let items : map component_item c.components_of.result.now ≡ items_in (pmt_of c.args.id (live_packets cells)) =
    c.components_of.ensures ∙ ap items_in (c.pmt-pmt.ensures (live_packets cells) w.fed) in
    pushed_after c.args.cut c.args.lines.now.items c.push_line.new.lines.items c.push_components.new.lines.items (service_line cells (c.args.id, c.args.pid) ∷ [])
    (map (component_line cells c.args.id) (items_in (pmt_of c.args.id (live_packets cells))))
    (c.in_ok-push_line.ensures
    ∙ ap (λ (t : List ℕ). c.args.lines.now.items ++ placed_at c.args.cut (t ∷ [])) (c.in_ok-text.ensures cells w s (c.pmt-pmt.ensures (live_packets cells) w.fed)))
    (c.in_ok-push_components.ensures cells w s
    ∙ ap (λ (ts : List (List ℕ)). c.push_line.new.lines.items ++ placed_at c.args.cut ts)
    (map_map (component_line cells c.args.id) component_item c.components_of.result.now ∙ ap (map (component_line cells c.args.id)) items))
