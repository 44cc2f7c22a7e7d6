use Rattle.std.proofs.Common.{map, ap, sym, ◌∙◌}
use Rattle.std.specs.List.{list_all}
use Rattle.ts_table_rows.specs.TableValues.{item_held}
use Rattle.ts_table_rows.proofs.ListLemmas.{map_one_more, map_all, test_one_more, test_all}
use Rattle.ts_table_rows.proofs.item_list.ItemList.write.Goals as goal

pub loop-item-preserved : goal.loop-item-preserved
loop-item-preserved g c = record {
  written =
      map_one_more item_held g.T.Item.as_item c.loop-item.items.items _ c.in_ok-written.written c.as_slice-held.result.now c.loop-item.item-index c.item-item.result c.loop-item-test.true c.item-item.is
      c.in_ok-push.ensures.items c.in_ok-written.ensures.held c.loop-item.invariant.written;
  fit =
      test_one_more g.T.Item.fits g.T.Item.as_item c.as_slice-held.result.now c.loop-item.item-index c.item-item.result c.loop-item-test.true c.item-item.is c.in_ok-written.ensures.fits c.loop-item.invariant.fit;
}

pub returns-clause-held : goal.returns-clause-held
returns-clause-held g c =
    map_all item_held g.T.Item.as_item c.loop-item.items.items c.as_slice-held.result.now c.loop-item.item-index c.loop-item-test.false c.loop-item.invariant.written
    ∙ ap (map g.T.Item.as_item) c.as_slice-held.ensures

pub returns-clause-fits : goal.returns-clause-fits
returns-clause-fits g c =
    sym (ap (λ xs. list_all g.T.Item.fits (map g.T.Item.as_item xs)) c.as_slice-held.ensures)
    ∙ test_all g.T.Item.fits g.T.Item.as_item c.as_slice-held.result.now c.loop-item.item-index c.loop-item-test.false c.loop-item.invariant.fit
