use Rattle.std.proofs.Common.{◌≡◌, ◌≤◌, ◌*◌, ◌-◌, true, drop}
use Rattle.packet_forms.specs.Stripped.{unit}
use Rattle.packet_search.specs.Rule.{in_row}
use Rattle.packet_search.proofs.unit_row.units_in_row.Given as goal

abbrev pub invariant-loop-count : goal.invariant-loop-count
invariant-loop-count l = record {
  few : l.count ≤ l.most;
  row : in_row l.form l.count l.bytes ≡ true;
  rest : l.rest ≡ drop (l.count * unit l.form) l.bytes;
}

abbrev pub decreases-loop-count : goal.decreases-loop-count
decreases-loop-count l = l.most - l.count
