use Rattle.std.proofs.Common.{subst}
use Rattle.plug_monitor.specs.WatchStands.{HasThirdIf}
use Rattle.plug_monitor.proofs.watch.meet_third.Goals as goal

pub returns-in_ok-meet-in-Some-clause-stands : goal.returns-in_ok-meet-in-Some-clause-stands
returns-in_ok-meet-in-Some-clause-stands c = λ conf history labels has span referred.
    let kept = subst (λ rows. HasThirdIf conf rows history) c.in-Some.is has in
    (kept.0, c.in_ok-meet-in-Some.ensures.stands conf.pcr_pid history labels kept.1 span referred)
