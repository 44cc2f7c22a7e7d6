use Rattle.std.proofs.Common.{◌≡◌, ℕ, ◌<◌, length, get_or}
use Rattle.ts_packet.proofs.pid_row.values_of.Given as goal

abbrev pub invariant-loop-pid : goal.invariant-loop-pid
invariant-loop-pid g l = record {
  so_far : length l.values.items ≡ l.pid;
  each : (k : ℕ) (other : _) → k < l.pid → goal.F-post g l.f k (get_or l.values.items k other);
}
