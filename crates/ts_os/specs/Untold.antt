-- What contracts see of real files and standard streams. This project's own rule: no clause can say which bytes the
-- system holds, gives or takes, so everything but the counts of faults is left open.
use Rattle.std.specs.Prelude.{ℕ, Bool, None}
use Rattle.ts_outside.specs.Source.{SourceView, own_bytes}
use Rattle.ts_outside.specs.Sink.{SinkView}
use Rattle.ts_outside.specs.Desk.{DeskView}

-- what contracts see of a real desk: its three counts of faults, and whether reports go to standard error
pub record OsDeskView : Type 0 where
  pub read_faults : ℕ
  pub write_faults : ℕ
  pub report_faults : ℕ
  pub aside : Bool

-- of a real source contracts see the count of its faults alone
abbrev pub untold_source : ℕ → SourceView
untold_source faults = record { left = None; faults = faults; origin = own_bytes }

-- of a real sink contracts see the count of its faults alone
abbrev pub untold_sink : ℕ → SinkView
untold_sink faults = record { taken = None; name = None; faults = faults }

-- of a real desk contracts see its three counts of faults alone
abbrev pub untold_desk : OsDeskView → DeskView
untold_desk d =
    record {
      files = None;
      outputs = None;
      reported = None;
      asked = None;
      closed_in = None;
      read_faults = d.read_faults;
      write_faults = d.write_faults;
      report_faults = d.report_faults;
    }
