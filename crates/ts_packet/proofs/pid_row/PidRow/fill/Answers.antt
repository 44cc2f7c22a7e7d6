use Rattle.std.proofs.Common.{sym}
use Rattle.ts_packet.specs.declared.numbers.TheConstants.{PID_COUNT}
use Rattle.ts_packet.proofs.PidRows.{each-of, filled-anew}
use Rattle.ts_packet.proofs.pid_row.PidRow.fill.Goals as goal

pub returns-clause-values : goal.returns-clause-values
returns-clause-values g c =
    filled-anew c.args.value c.fill.new.values _ _ _ PID_COUNT _ (sym c.deref_mut.ensures.len) c.fill.ensures c.deref_mut.ensures.value c.self.invariant

pub returns-clause-each : goal.returns-clause-each
returns-clause-each g c =
    each-of PID_COUNT c.args.value _
    (filled-anew c.args.value c.fill.new.values _ _ _ PID_COUNT _ (sym c.deref_mut.ensures.len) c.fill.ensures c.deref_mut.ensures.value c.self.invariant)
