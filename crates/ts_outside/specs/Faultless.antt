-- A call that meets no fault. This project's own rule.
use Rattle.ts_outside.specs.Count.{IsQuiet}
use Rattle.ts_outside.specs.Desk.{DeskView}

-- nothing failed outside: no count of faults rose, and none was at its end
pub record NothingFails (old new : DeskView) : Type 0 where
  pub reads : IsQuiet old.read_faults new.read_faults
  pub writes : IsQuiet old.write_faults new.write_faults
  pub reports : IsQuiet old.report_faults new.report_faults
