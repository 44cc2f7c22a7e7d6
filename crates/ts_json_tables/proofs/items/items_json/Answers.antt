use Rattle.serde_json.specs.View.{view}
use Rattle.ts_table_rows.specs.TableFitting.{item_fits}
use Rattle.ts_table_rows.specs.TablePages.{item_page}
use Rattle.ts_table_rows.specs.TableValues.{item_held}
use Rattle.ts_json_tables.specs.TableElements.{item_shown}
use Rattle.ts_json_tables.proofs.MappedLemmas.{one_more_of, here_and_after}
use Rattle.ts_json_tables.proofs.items.items_json.Goals as goal

pub item_json-requires : goal.item_json-requires
item_json-requires c =
    (here_and_after (item_fits (item_page c.args.form)) item_held c.args.items.now c.loop-item.item-index c.item-item.result c.loop-item-test.true c.item-item.is c.loop-item.invariant.fit).0

pub loop-item-preserved : goal.loop-item-preserved
loop-item-preserved c = record {
  fit = (here_and_after (item_fits (item_page c.args.form)) item_held c.args.items.now c.loop-item.item-index c.item-item.result c.loop-item-test.true c.item-item.is c.loop-item.invariant.fit).1;
  shown =
      one_more_of view (item_shown (item_page c.args.form)) item_held c.loop-item.nodes.items _ _ c.args.items.now c.loop-item.item-index c.item-item.result
      c.loop-item-test.true c.item-item.is c.in_ok-push.ensures.items c.in_ok-item_json.ensures c.loop-item.invariant.shown;
}
