use Rattle.std.proofs.Common.{sym, ap, ◌∙◌}
use Rattle.std.specs.Prelude.{option_map}
use Rattle.ts_jtree.proofs.FaultLemmas.{none_there, one_there}
use Rattle.ts_jtree.proofs.element.no_children.Goals as goal

pub returns-in_default : goal.returns-in_default
returns-in_default c =
    none_there c.args.nodes.now (sym c.first.ensures.value ∙ ap (option_map (λ x. x.now)) c.in_default.is)

pub returns : goal.returns
returns c =
    one_there c.args.nodes.now c.in-Some.value.now c.refuse_stranger.result c.at_child.result
    (sym c.first.ensures.value ∙ ap (option_map (λ x. x.now)) c.in-Some.is) c.refuse_stranger.ensures c.at_child.ensures
