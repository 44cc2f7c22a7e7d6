use Rattle.std.proofs.Common.{◌∙◌}
use Rattle.ts_packet.specs.Cells.{live_packets}
use Rattle.monitor_services.specs.PidErrors.{pid_rule}
use Rattle.monitor_services.proofs.Naming.{pids-stay}
use Rattle.monitor_services.proofs.pid_row.rename.Goals as goal

pub returns-then-not-may_bring_tables : goal.returns-then-not-may_bring_tables
returns-then-not-may_bring_tables c = λ units pcr_pid history labels has here forced.
    pids-stay c.args.kind units pcr_pid c.args.keys.now history c.args.packet.now labels has
    (c.may_bring_tables.ensures.same c.if-not-may_bring_tables.true (live_packets history) forced)

pub returns : goal.returns
returns c = λ units pcr_pid history labels has here forced.
    c.in_ok-rename.ensures (pid_rule c.args.kind units pcr_pid) history c.args.packet.now labels has here
    (c.deref.ensures.value ∙ c.in_ok-numbers.ensures _ forced)
