use Rattle.plug_window.proofs.DelayLaws.{never-ends}
use Rattle.plug_window.proofs.laws.delays_never_end.Goals as goal

pub returns : goal.returns
returns c = never-ends
