use Rattle.std.proofs.Common.{refl}
use Rattle.monitor_crcs.proofs.Little.{cut-over}
use Rattle.monitor_crcs.proofs.pieces.cut_off.Goals as goal

pub returns-then-is_over-clause-over : goal.returns-then-is_over-clause-over
returns-then-is_over-clause-over c =
    λ _. cut-over c.args.waiting.now.items c.cut_pieces.new.waiting.items c.args.unfinished.now.items c.as_slice.result.now c.deref.result.now c.in_ok-at.at
    c.as_slice.ensures.value c.deref.ensures.value c.in_ok-at.ensures.told (c.if-is_over.ensures.over refl)
