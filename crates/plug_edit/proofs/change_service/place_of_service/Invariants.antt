use Rattle.std.proofs.Common.{◌≤◌}
use Rattle.std.specs.List.{position_or_len}
use Rattle.plug_edit.specs.ServiceChange.{is_service_descriptor}
use Rattle.plug_edit.proofs.change_service.place_of_service.Given as goal

abbrev pub invariant-loop-place : goal.invariant-loop-place
invariant-loop-place l = l.place ≤ position_or_len is_service_descriptor l.descriptors
