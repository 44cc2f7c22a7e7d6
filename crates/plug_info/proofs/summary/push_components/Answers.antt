use Rattle.std.proofs.Common.{◌++◌, map, ap, ◌∙◌}
use Rattle.std.proofs.lemmas.List.{take_all}
use Rattle.ts_psi.specs.PsiTables.{component_item}
use Rattle.plugin_trait.specs.PlacedLines.{placed_at}
use Rattle.plug_info.specs.InfoRule.{component_line}
use Rattle.plug_info.proofs.LineLemmas.{map_more}
use Rattle.plug_info.proofs.summary.push_components.Goals as goal

pub loop-component-preserved : goal.loop-component-preserved
loop-component-preserved c = λ cells w s.
    map_more c.args.cut (λ x. component_line cells c.args.service (component_item x)) c.args.components.now c.loop-component.component-index c.component-item.result
    c.args.lines.now.items c.loop-component.lines.items c.push_line.new.lines.items c.in_ok-text.text
    c.loop-component-test.true c.component-item.is (c.in_ok-text.ensures cells w s) (c.loop-component.invariant cells w s) c.in_ok-push_line.ensures

pub returns : goal.returns
returns c = λ cells w s.
    c.loop-component.invariant cells w s
    ∙ ap (λ xs. c.args.lines.now.items ++ placed_at c.args.cut (map (λ x. component_line cells c.args.service (component_item x)) xs))
    (take_all c.loop-component.component-index c.args.components.now c.loop-component-test.false)
