use Rattle.std.proofs.Common.{◌≡◌, vec_len}
use Rattle.test_plugins.proofs.filters.cells_on.Given as goal

abbrev pub invariant-loop-pid : goal.invariant-loop-pid
invariant-loop-pid l = vec_len l.cells ≡ l.pid-index
