use Rattle.std.proofs.Common.{length}
use Rattle.section_flow.proofs.Taking.{Took, AlteredSoFar}
use Rattle.section_flow.proofs.flow.take_ready.Given as goal

abbrev pub invariant-loop-section : goal.invariant-loop-section
invariant-loop-section g l = record {
  took : Took (g.E.SectionEdit.edited l.edit) l.fn.demux l.demux l.fn.packing l.packing;
  seen : AlteredSoFar (g.E.SectionEdit.edited l.edit) l.fn.demux l.demux l.altered;
}

abbrev pub decreases-loop-section : goal.decreases-loop-section
decreases-loop-section g l = length l.demux.waiting
