use Rattle.std.proofs.Common.{◌≡◌, length, ap, arith}
use Rattle.plug_tables.proofs.ToldLemmas.{texts_more}
use Rattle.plug_tables.proofs.telling.tell_tables.Goals as goal

pub loop-table-preserved : goal.loop-table-preserved
loop-table-preserved c =
    texts_more c.args.tids.now c.args.at c.args.pid c.loop-table.table-index c.args.tables.now _ c.args.told.now.items c.loop-table.told.items c.tell_table.new.told.items
    c.loop-table-test.true c.table-item.is c.loop-table.invariant c.in_ok-tell_table.ensures

pub returns-in_err-tell_table-clause-none : goal.returns-in_err-tell_table-clause-none
returns-in_err-tell_table-clause-none c = λ e.
    absurd (let none : length c.args.tables.now ≡ 0 = ap length e in omega (arith, none, c.loop-table-test.true))
