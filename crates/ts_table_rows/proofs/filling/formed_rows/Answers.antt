use Rattle.std.proofs.Common.{ap, Some, true}
use Rattle.std.specs.Prelude.{All}
use Rattle.ts_bits.specs.TaggedBody.{IsDescriptor}
use Rattle.ts_table_rows.specs.FilledRows.{thing_view, item_kind_row}
use Rattle.ts_table_rows.specs.TableFitting.{item_fits}
use Rattle.ts_table_rows.specs.TablePages.{item_page}
use Rattle.ts_table_rows.specs.TableValues.{item_held}
use Rattle.ts_table_rows.proofs.FillLemmas.{map_one_more, map_all, All_one_more, All_all, test_at, described_fit}
use Rattle.ts_table_rows.proofs.filling.formed_rows.Goals as goal

pub item_bytes-requires-clause-fits : goal.item_bytes-requires-clause-fits
item_bytes-requires-clause-fits c = test_at (item_fits (item_page c.args.form)) item_held c.args.items.now c.loop-item.item-index c.item-item.result c.requires.fits c.loop-item-test.true c.item-item.is

pub loop-item-preserved : goal.loop-item-preserved
loop-item-preserved c = record {
  written =
      map_one_more thing_view (item_kind_row (Some (item_page c.args.form))) item_held c.loop-item.rows.items _ _ c.args.items.now c.loop-item.item-index c.item-item.result c.loop-item-test.true c.item-item.is c.in_ok-push.ensures.items
      (ap (λ b. (true, b)) c.in_ok-bytes.ensures.row) c.loop-item.invariant.written;
  fit =
      All_one_more (λ x. All (λ d. IsDescriptor d) x.descriptors) item_held c.args.items.now c.loop-item.item-index c.item-item.result c.loop-item-test.true c.item-item.is
      (described_fit (item_page c.args.form) (item_held c.item-item.result)
      (test_at (item_fits (item_page c.args.form)) item_held c.args.items.now c.loop-item.item-index c.item-item.result c.requires.fits c.loop-item-test.true c.item-item.is) c.in_ok-bytes.ensures.fit)
      c.loop-item.invariant.fit;
}

pub returns-clause-rows : goal.returns-clause-rows
returns-clause-rows c =
    map_all thing_view (item_kind_row (Some (item_page c.args.form))) item_held c.loop-item.rows.items c.args.items.now c.loop-item.item-index c.loop-item-test.false c.loop-item.invariant.written

pub returns-clause-fit : goal.returns-clause-fit
returns-clause-fit c =
    All_all (λ x. All (λ d. IsDescriptor d) x.descriptors) item_held c.args.items.now c.loop-item.item-index c.loop-item-test.false c.loop-item.invariant.fit
