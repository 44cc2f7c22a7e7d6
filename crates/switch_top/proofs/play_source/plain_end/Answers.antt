use Rattle.std.proofs.Common.{inl, inr, refl, sym}
use Rattle.switch_top.proofs.play_source.plain_end.Goals as goal

pub returns-in-Ok-clause-ends : goal.returns-in-Ok-clause-ends
returns-in-Ok-clause-ends g c = inl (c.in-Ok.left_out, refl, sym c.in-Ok.ensures.faults, c.in-Ok.ensures.left_out)

pub returns-in-Err-clause-ends : goal.returns-in-Err-clause-ends
returns-in-Err-clause-ends g c = inr (refl, c.in-Err.ensures.failed)
