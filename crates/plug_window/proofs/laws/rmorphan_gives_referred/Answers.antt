use Rattle.plug_window.proofs.DelayLaws.{rmorphan-referred}
use Rattle.plug_window.proofs.laws.rmorphan_gives_referred.Goals as goal

pub returns : goal.returns
returns c = rmorphan-referred
