use Rattle.ts_table_rows.specs.TableFitting.{item_fits}
use Rattle.ts_table_rows.specs.TableValues.{item_held}
use Rattle.ts_table_pages.specs.PsiPages.{entry_page}
use Rattle.ts_psi.proofs.EntryLemmas.{test_at, network_here, network_later, network_none}
use Rattle.ts_psi.proofs.entries.network_of.Goals as goal

pub entry_of-id-requires : goal.entry_of-id-requires
entry_of-id-requires c = test_at (item_fits entry_page) item_held c.args.items.now c.loop-item.item-index c.item-item.result c.requires c.loop-item-test.true c.item-item.is

pub returns-then-id-eq0-clause-network : goal.returns-then-id-eq0-clause-network
returns-then-id-eq0-clause-network c =
    network_here c.args.items.now c.loop-item.item-index c.item-item.result c.entry_of-id.result.0 c.entry_of-id.result.1 _ c.loop-item-test.true c.item-item.is c.entry_of-id.ensures.held c.if-id-eq0.true c.loop-item.invariant

pub loop-item-preserved : goal.loop-item-preserved
loop-item-preserved c =
    network_later c.args.items.now c.loop-item.item-index c.item-item.result c.entry_of-id.result.0 c.entry_of-id.result.1 _ c.loop-item-test.true c.item-item.is c.entry_of-id.ensures.held c.if-id-eq0.false c.loop-item.invariant

pub returns-clause-network : goal.returns-clause-network
returns-clause-network c = network_none c.args.items.now c.loop-item.item-index _ c.loop-item-test.false c.loop-item.invariant
