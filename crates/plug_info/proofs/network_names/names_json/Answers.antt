use Rattle.std.proofs.Common.{ap, ap₂, ◌∙◌}
use Rattle.plug_info_texts.specs.NamedTexts.{names_json}
use Rattle.plug_info.specs.NetworkNames.{network_json}
use Rattle.plug_info.proofs.network_names.names_json.Goals as goal

pub returns : goal.returns
returns c = λ cells w.
    c.in_ok-text.ensures.ok
    ∙ ap₂ names_json (c.in_ok-network.ensures ∙ ap network_json (c.network.ensures cells w)) (c.in_ok-bouquets.ensures cells w)
