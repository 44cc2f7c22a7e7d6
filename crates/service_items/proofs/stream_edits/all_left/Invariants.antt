use Rattle.std.proofs.Common.{◌≡◌, map}
use Rattle.ts_si.specs.SiTables.{stream_item}
use Rattle.service_items.specs.ServiceItems.{stream_left}
use Rattle.service_items.proofs.stream_edits.all_left.Given as goal

abbrev pub invariant-loop-entry : goal.invariant-loop-entry
invariant-loop-entry l = map stream_item l.left.items ≡ map (stream_left l.services l.number l.stream) (map stream_item l.yielded)
