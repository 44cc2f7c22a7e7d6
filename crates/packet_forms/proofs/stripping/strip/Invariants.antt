use Rattle.std.proofs.Common.{◌-◌, ◌≡◌, ◌≤◌, length, take, drop}
use Rattle.packet_forms.specs.Stripped.{stripped_from}
use Rattle.packet_forms.proofs.stripping.strip.Given as goal

abbrev pub invariant-loop-from : goal.invariant-loop-from
invariant-loop-from l = record {
  behind : l.to ≤ l.from;
  within : l.from ≤ length l.bytes;
  len : length l.bytes ≡ length l.fn.bytes;
  front : take l.to l.bytes ≡ stripped_from l.form l.at (take l.from l.fn.bytes);
  rest : drop l.from l.bytes ≡ drop l.from l.fn.bytes;
}

abbrev pub decreases-loop-from : goal.decreases-loop-from
decreases-loop-from l = length l.bytes - l.from
