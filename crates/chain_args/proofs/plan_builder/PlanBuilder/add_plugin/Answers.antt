use Rattle.std.proofs.Common.{◌∙◌, ap, map, arith, refl}
use Rattle.std.specs.String.{string_bytes}
use Rattle.plugin_settings.specs.Plugins.{plugin_kind_named}
use Rattle.chain_args.proofs.PlanBuilderLemmas.{plugin_added}
use Rattle.chain_args.proofs.plan_builder.PlanBuilder.add_plugin.Goals as goal

pub returns : goal.returns
returns c = λ before stands.
    plugin_added c.args.self.now _ before (map string_bytes c.args.others.now) (map string_bytes c.in-Some.own.now) (string_bytes c.in-Some.name.now) c.in-Some-of.kind c.in_ok-item.item stands
    (omega arith)
    (ap (map string_bytes) c.in-Some.ensures.cases.0)
    (c.in-Some-of.ensures ∙ ap plugin_kind_named c.as_str.ensures.value)
    c.in_ok-item.ensures.reads c.in_ok-item.ensures.valid refl refl c.in_ok-push.ensures.items
