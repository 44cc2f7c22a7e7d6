use Rattle.std.proofs.Common.{◌≡◌, ◌++◌, List, take}
use Rattle.monitor_lines.specs.declared.monitor_error.MonitorError.{MonitorError}
use Rattle.plug_monitor.specs.Counting.{IsEach}
use Rattle.plug_monitor.proofs.counts.Counts.add_all.Given as goal

-- the errors so far were counted
abbrev pub invariant-loop-error : goal.invariant-loop-error
invariant-loop-error l = record {
  each : (before : List MonitorError) → IsEach l.fn.self.each before → IsEach l.self.each (before ++ take l.error-index l.errors);
  all : l.self.all ≡ l.fn.self.all;
}
