use Rattle.std.proofs.Common.{◌≡◌}
use Rattle.std.specs.List.{flat_map}
use Rattle.service_items.specs.ServiceItems.{descriptor_left}
use Rattle.service_items.proofs.stream_edits.descriptors_left.Given as goal

abbrev pub invariant-loop-descriptor : goal.invariant-loop-descriptor
invariant-loop-descriptor l = l.left.items ≡ flat_map (descriptor_left l.services l.number) l.yielded
