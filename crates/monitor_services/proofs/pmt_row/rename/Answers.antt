use Rattle.std.proofs.Common.{◌∙◌}
use Rattle.plug_psi.proofs.FoundLemmas.{other-pid}
use Rattle.monitor_services.specs.PmtErrors.{pmt_rule}
use Rattle.monitor_services.proofs.Naming.{pmts-are, pmts-stay}
use Rattle.monitor_services.proofs.pmt_row.rename.Goals as goal

pub returns-then-pid-ne-PAT_PID : goal.returns-then-pid-ne-PAT_PID
returns-then-pid-ne-PAT_PID c = λ pcr_pid history labels has here forced.
    pmts-stay pcr_pid c.args.keys.now history c.args.packet.now labels has
    (other-pid 0 c.pid.result c.args.packet.now c.pid.ensures.field c.if-pid-ne-PAT_PID.true)

pub returns : goal.returns
returns c = λ pcr_pid history labels has here forced.
    c.in_ok-rename.ensures (pmt_rule pcr_pid) history c.args.packet.now labels has here
    (c.deref.ensures.value ∙ pmts-are _ c.in_ok-numbers.numbers.items _ c.in_ok-numbers.ensures (c.pat.ensures _ forced))
