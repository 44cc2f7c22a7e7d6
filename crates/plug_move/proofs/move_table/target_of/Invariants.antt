use Rattle.std.proofs.Common.{◌≡◌, drop}
use Rattle.plug_move.specs.Targets.{target_of}
use Rattle.plug_move.proofs.move_table.target_of.Given as goal

abbrev pub invariant-loop-pair : goal.invariant-loop-pair
invariant-loop-pair l = target_of l.pairs l.pid ≡ target_of (drop l.pair-index l.pairs) l.pid
