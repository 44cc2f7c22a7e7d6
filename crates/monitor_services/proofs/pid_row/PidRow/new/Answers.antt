use Rattle.std.proofs.Common.{refl}
use Rattle.monitor_services.specs.PidErrors.{pid_rule}
use Rattle.monitor_services.proofs.Naming.{limit-is, no-pids-named}
use Rattle.monitor_services.proofs.pid_row.PidRow.new.Goals as goal

pub returns : goal.returns
returns c = λ pcr_pid. record {
  kind_is = refl;
  keys_are = c.new.ensures (pid_rule c.args.kind c.args.units pcr_pid)
      (limit-is c.args.kind c.args.units pcr_pid c.tells_ends.result c.tells_ends.ensures) (no-pids-named c.args.kind);
}
