use Rattle.std.proofs.Common.{◌≤◌}
use Rattle.std.specs.List.{position_or_len}
use Rattle.plug_edit.specs.NitEdit.{is_name_descriptor}
use Rattle.plug_edit.proofs.nit_edit.place_of_name.Given as goal

abbrev pub invariant-loop-place : goal.invariant-loop-place
invariant-loop-place l = l.place ≤ position_or_len is_name_descriptor l.descriptors
