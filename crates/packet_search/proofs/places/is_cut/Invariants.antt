use Rattle.std.proofs.Common.{◌≡◌, ◌-◌, false}
use Rattle.packet_search.specs.Rule.{five_within}
use Rattle.packet_search.proofs.places.is_cut.Given as goal

abbrev pub invariant-loop-place : goal.invariant-loop-place
invariant-loop-place l = five_within l.form (l.place - 1) l.bytes ≡ false
