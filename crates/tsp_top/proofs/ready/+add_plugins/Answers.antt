use Rattle.std.proofs.Common.{◌≡◌, ℕ, rules}
use Rattle.std.proofs.lemmas.List.Elements.{All-rest}
use Rattle.std.proofs.lemmas.Result.{on_ok_weaker}
use Rattle.plugin_trait.specs.HeardStands.{HeardStands}
use Rattle.plugin_settings.specs.Items.{IsValidItem, preallocated_of_item, rule_of_item}
use Rattle.plugin_set.specs.contracts.any_plugin.AnyPluginPlugin.TheImpl.{ghosts as any}
use Rattle.tsp_top.specs.ByPlugin.{by_plugin}
use Rattle.tsp_top.proofs.ReadyLemmas.{OneMore, one_more, heard_is, heard_fresh, rooms_after, rules_after}
use Rattle.tsp_top.proofs.ready.+add_plugins.Goals as goal
use Rattle.tsp_top.proofs.ready.+add_plugins.Goals.{In_ok-push_made}

-- the plugin that was made comes after the others
more : (t : ℕ) (c : In_ok-push_made t)
    → OneMore (by_plugin any.rule) (HeardStands any.rule any.stands_for) (by_plugin any.preallocated) c.args.plugins.now.items c.push_made.new.plugins.items
    (rule_of_item c.in-Some.item.now c.take_table-table.result.items) (preallocated_of_item c.in-Some.item.now c.args.buffer)
more t c = one_more (by_plugin any.rule) (HeardStands any.rule any.stands_for) (by_plugin any.preallocated) _ _ _ _ c.without_lines.result
    c.requires.before c.in_ok-push_made.ensures
    (heard_is c.of-made.result c.without_lines.result c.without_lines.ensures.plugin (λ plugin. any.rule plugin ≡ rule_of_item c.in-Some.item.now c.take_table-table.result.items) c.of-made.ensures.rule)
    (heard_fresh any.rule any.stands_for c.of-made.result c.without_lines.result c.without_lines.ensures.plugin c.without_lines.ensures.none c.of-made.ensures.fresh)
    (heard_is c.of-made.result c.without_lines.result c.without_lines.ensures.plugin (λ plugin. any.preallocated plugin ≡ preallocated_of_item c.in-Some.item.now c.args.buffer) c.of-made.ensures.preallocated)

pub add_plugins-requires : goal.add_plugins-requires
add_plugins-requires t c = (
  search rules,
  (
    All-rest IsValidItem _ _ _ c.in-Some.ensures.cases.0 c.requires.valid,
    (more t (goal.at.add_plugins-requires t c).In_ok-push_made).fresh,
  ),
)

pub returns-clause-rules : goal.returns-clause-rules
returns-clause-rules t c = on_ok_weaker c.add_plugins.result
    (rules_after (by_plugin any.rule) c.args.plugins.now.items c.push_made.new.plugins.items _ _ _ c.in-Some.item.now _ _ _
    c.in-Some.ensures.cases.0 c.take_table-table.ensures.first c.take_table-table.ensures.later
    (more t (goal.at.returns-clause-rules t c).In_ok-push_made).rules)
    c.add_plugins.ensures.rules

pub returns-clause-rooms : goal.returns-clause-rooms
returns-clause-rooms t c = on_ok_weaker c.add_plugins.result
    (rooms_after (by_plugin any.preallocated) c.args.buffer c.args.plugins.now.items c.push_made.new.plugins.items _ _ _ c.in-Some.item.now
    c.in-Some.ensures.cases.0 (more t (goal.at.returns-clause-rooms t c).In_ok-push_made).rooms)
    c.add_plugins.ensures.rooms
