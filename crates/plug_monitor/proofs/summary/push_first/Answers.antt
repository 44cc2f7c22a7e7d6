use Rattle.plug_monitor.proofs.Summing.{text-last, text-next}
use Rattle.plug_monitor.proofs.summary.push_first.Goals as goal

pub returns : goal.returns
returns c =
    text-next c.args.cut _ _ _ _ _ c.in_ok-push_count.ensures
    (text-next c.args.cut _ _ _ _ _ c.in_ok-push_count-2.ensures
    (text-next c.args.cut _ _ _ _ _ c.in_ok-push_count-3.ensures
    (text-last c.args.cut _ _ _ c.in_ok-push_count-4.ensures)))
