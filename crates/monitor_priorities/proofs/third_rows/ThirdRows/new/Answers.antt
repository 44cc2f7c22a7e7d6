use Rattle.monitor_priorities.proofs.third_rows.ThirdRows.new.Goals as goal

pub returns : goal.returns
returns c = λ pcr_pid. record {
  tables = c.in_ok-new-4.ensures pcr_pid;
  orphans = c.in_ok-new.ensures pcr_pid;
  eits = c.in_ok-new-3.ensures pcr_pid;
  rst = c.in_ok-new-2.ensures;
}
