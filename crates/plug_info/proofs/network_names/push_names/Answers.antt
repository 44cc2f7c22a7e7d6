use Rattle.std.proofs.Common.{◌++◌, ap, ◌∙◌}
use Rattle.plugin_trait.specs.PlacedLines.{placed_at}
use Rattle.plug_info.specs.NetworkNames.{network_lines}
use Rattle.plug_info.proofs.LineLemmas.{pushed_after}
use Rattle.plug_info.proofs.network_names.push_names.Goals as goal

pub returns : goal.returns
returns c = λ cells w.
    pushed_after c.args.cut c.args.lines.now.items c.push_network.new.lines.items c.push_bouquets.new.lines.items _ _
    (c.in_ok-push_network.ensures
    ∙ ap (λ nit. c.args.lines.now.items ++ placed_at c.args.cut (network_lines nit)) (c.network.ensures cells w))
    (c.in_ok-push_bouquets.ensures cells w)
