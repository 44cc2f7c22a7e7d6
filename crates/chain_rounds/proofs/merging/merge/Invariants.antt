use Rattle.std.proofs.Common.{◌≡◌, ◌++◌, length}
use Rattle.chain_rounds.specs.Merged.{merged}
use Rattle.chain_rounds.proofs.merging.merge.Given as goal

abbrev pub invariant-loop-note : goal.invariant-loop-note
invariant-loop-note g l = l.both.items ++ merged g.N.PacketNote.place l.first.items l.second.items ≡ merged g.N.PacketNote.place l.fn.first.items l.fn.second.items

abbrev pub decreases-loop-note : goal.decreases-loop-note
decreases-loop-note g l = length (merged g.N.PacketNote.place l.first.items l.second.items)
