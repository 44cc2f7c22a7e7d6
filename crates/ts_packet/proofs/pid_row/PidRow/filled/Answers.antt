use Rattle.ts_packet.specs.declared.numbers.TheConstants.{PID_COUNT}
use Rattle.ts_packet.proofs.PidRows.{each-of}
use Rattle.ts_packet.proofs.pid_row.PidRow.filled.Goals as goal

pub returns-clause-each : goal.returns-clause-each
returns-clause-each g c = each-of PID_COUNT c.args.value _ c.in_ok-values.ensures
