use Rattle.std.proofs.Common.{sym, subst}
use Rattle.monitor_rows.proofs.Rowing.{dropped_row}
use Rattle.monitor_services.specs.CurrentSdt.{HasFedSdt}
use Rattle.monitor_services.specs.EventErrors.{event_rule}
use Rattle.monitor_services.specs.PidErrors.{pid_rule}
use Rattle.monitor_services.specs.PmtErrors.{pmt_rule}
use Rattle.monitor_services.specs.RowStands.{HasStarted, HaveRead}
use Rattle.monitor_services.specs.StampErrors.{stamp_rule}
use Rattle.monitor_services.proofs.Naming.{dropped-more}
use Rattle.monitor_services.proofs.service_laws.a_dropped_cell_leaves_the_rows.Goals as goal

pub returns-clause-pmt : goal.returns-clause-pmt
returns-clause-pmt c = λ pcr_pid row history has. record {
  keys_are = dropped_row (pmt_rule pcr_pid) row.keys history has.keys_are;
  have_read = subst (HaveRead row.readers) (sym (dropped-more history)) has.have_read;
}

pub returns-clause-pid : goal.returns-clause-pid
returns-clause-pid c = λ kind units pcr_pid row history has. record {
  kind_is = has.kind_is;
  keys_are = dropped_row (pid_rule kind units pcr_pid) row.keys history has.keys_are;
}

pub returns-clause-stamp : goal.returns-clause-stamp
returns-clause-stamp c = λ pcr_pid row history has. record {
  keys_are = dropped_row (stamp_rule pcr_pid) row.keys history has.keys_are;
  started = subst (HasStarted row) (sym (dropped-more history)) has.started;
}

pub returns-clause-event : goal.returns-clause-event
returns-clause-event c = λ pcr_pid row history has. record {
  keys_are = dropped_row (event_rule pcr_pid) row.keys history has.keys_are;
  fed_are = subst (HasFedSdt row.sdt) (sym (dropped-more history)) has.fed_are;
}
