use Rattle.std.proofs.Common.{[]}
use Rattle.serde_json.specs.View.{view}
use Rattle.ts_json_descr.specs.DescrElements.{descr_shown}
use Rattle.ts_json_tables.proofs.MappedLemmas.{one_more}
use Rattle.ts_json_tables.proofs.items.descrs_json.Goals as goal

pub loop-descriptor-preserved : goal.loop-descriptor-preserved
loop-descriptor-preserved c =
    one_more view descr_shown [] c.loop-descriptor.nodes.items _ _ c.args.descriptors.now c.loop-descriptor.descriptor-index c.descriptor-item.result
    c.loop-descriptor-test.true c.descriptor-item.is c.in_ok-push.ensures.items c.in_ok-descr_json.ensures c.loop-descriptor.invariant
