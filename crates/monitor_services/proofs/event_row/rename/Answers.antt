use Rattle.std.proofs.Common.{◌∙◌}
use Rattle.plug_psi.proofs.FoundLemmas.{other-pid}
use Rattle.monitor_services.specs.EventErrors.{event_rule}
use Rattle.monitor_services.proofs.SdtFeeding.{events-are, events-stay}
use Rattle.monitor_services.proofs.event_row.rename.Goals as goal

pub returns-then-pid-ne-SDT_PID : goal.returns-then-pid-ne-SDT_PID
returns-then-pid-ne-SDT_PID c = λ pcr_pid history labels has here fed.
    events-stay pcr_pid c.args.keys.now history c.args.packet.now labels has
    (other-pid 17 c.pid.result c.args.packet.now c.pid.ensures.field c.if-pid-ne-SDT_PID.true)

pub returns : goal.returns
returns c = λ pcr_pid history labels has here fed.
    c.in_ok-rename.ensures (event_rule pcr_pid) history c.args.packet.now labels has here
    (c.deref.ensures.value ∙ events-are _ c.in_ok-numbers.numbers.items _ c.in_ok-numbers.ensures (c.sdt.ensures _ fed))
