use Rattle.std.proofs.lemmas.Result.{on_ok_weaker}
use Rattle.ts_table_rows.specs.TablePages.{table_page}
use Rattle.ts_table_rows.proofs.WriteLemmas.{parts_written}
use Rattle.ts_table_rows.proofs.write_rows.put_parts.Goals as goal

pub returns : goal.returns
returns c =
    on_ok_weaker c.put_after.result
    (λ last.
    parts_written (table_page c.args.layout.now) c.args.values.now c.parted.result.0.now c.parted.result.1.now c.held_count.result c.args.own.now c.args.items.now c.args.out.now c.write_rows.new.out c.write_rows-2.new.out c.put_own.new.out c.put_after.new.out
    c.held_count.ensures.count c.parted.ensures.first c.parted.ensures.others c.in_ok-write_rows.ensures c.in_ok-write_rows-2.ensures c.in_ok-put_own.ensures last)
    c.put_after.ensures
