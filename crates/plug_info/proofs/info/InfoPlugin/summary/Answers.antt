use Rattle.std.proofs.Common.{take}
use Rattle.plug_info.proofs.info.InfoPlugin.summary.Goals as goal

pub returns-clause-said : goal.returns-clause-said
returns-clause-said c = λ history mark s.
    c.in_ok-push_report.ensures (take mark history) (s.0 c.in_ok-check.ensures.unset).tracks
