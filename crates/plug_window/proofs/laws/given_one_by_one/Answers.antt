use Rattle.plug_window.proofs.DelayLaws.{one-by-one}
use Rattle.plug_window.proofs.laws.given_one_by_one.Goals as goal

pub returns : goal.returns
returns c = one-by-one
