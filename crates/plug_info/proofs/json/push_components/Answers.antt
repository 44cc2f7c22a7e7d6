use Rattle.std.proofs.Common.{◌+◌, ◌++◌, take, ap, ◌∙◌}
use Rattle.std.specs.List.{flat_map}
use Rattle.std.specs.String.{string_bytes}
use Rattle.std.proofs.lemmas.List.{take_all}
use Rattle.ts_psi.specs.PsiTables.{component_item}
use Rattle.plug_info_texts.specs.InfoJson.{after_comma}
use Rattle.plug_info.specs.InfoRule.{component_object}
use Rattle.plug_info_texts.proofs.JsonLemmas.{item_more, taken_more}
use Rattle.plug_info.proofs.json.push_components.Goals as goal

pub loop-component-preserved : goal.loop-component-preserved
loop-component-preserved c = λ cells w s.
    let those = c.args.components.now in
    let at = c.loop-component.component-index in
    item_more (λ x. after_comma (component_object cells (component_item x))) (take at those) (take (at + 1) those) c.component-item.result _ _ _ _
    (taken_more those at c.component-item.result c.loop-component-test.true c.component-item.is)
    (ap after_comma (c.deref.ensures ∙ c.in_ok-text.ensures cells w s)) (c.loop-component.invariant cells w s) c.in_ok-push_item.ensures

pub returns : goal.returns
returns c = λ cells w s.
    c.loop-component.invariant cells w s
    ∙ ap (λ xs. string_bytes c.args.items.now ++ flat_map (λ x. after_comma (component_object cells (component_item x))) xs)
    (take_all c.loop-component.component-index c.args.components.now c.loop-component-test.false)
