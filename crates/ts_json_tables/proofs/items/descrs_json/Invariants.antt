use Rattle.std.proofs.Common.{◌≡◌, take, map}
use Rattle.serde_json.specs.View.{view}
use Rattle.ts_json_tables.specs.TableElements.{descrs_shown}
use Rattle.ts_json_tables.proofs.items.descrs_json.Given as goal

abbrev pub invariant-loop-descriptor : goal.invariant-loop-descriptor
invariant-loop-descriptor l = map view l.nodes.items ≡ descrs_shown (take l.descriptor-index l.descriptors)
