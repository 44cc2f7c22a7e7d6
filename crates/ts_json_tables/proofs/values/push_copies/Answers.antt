use Rattle.std.proofs.Common.{map}
use Rattle.ts_fields.specs.Layout.{held}
use Rattle.ts_json_tables.proofs.MappedLemmas.{one_more}
use Rattle.ts_json_tables.proofs.values.push_copies.Goals as goal

pub loop-value-preserved : goal.loop-value-preserved
loop-value-preserved c =
    one_more held held (map held c.args.values.now.items) c.loop-value.values.items _ _ c.args.from.now c.loop-value.value-index c.value-item.result
    c.loop-value-test.true c.value-item.is c.in_ok-push.ensures.items c.in_ok-copy.ensures c.loop-value.invariant
