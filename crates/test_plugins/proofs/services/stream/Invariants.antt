use Rattle.std.proofs.Common.{◌≡◌, length}
use Rattle.test_plugins.proofs.services.stream.Given as goal

-- each packet so far has its cell
abbrev pub invariant-loop : goal.invariant-loop
invariant-loop l = record {
  so_far : length l.cells.items ≡ l.counter;
  given : l.generator.given ≡ l.counter;
}
