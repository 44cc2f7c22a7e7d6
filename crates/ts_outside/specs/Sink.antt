-- Sinks: where bytes go. This project's own rule.
use Rattle.std.specs.Prelude.{ℕ, List, Option}
use Rattle.ts_outside.specs.Count.{raised}
use Rattle.ts_outside.specs.Told.{grown}

-- what contracts see of a sink: the bytes that it took and the name for which it was opened, each known or not,
-- and the count of its faults
pub record SinkView : Type 0 where
  pub taken : Option (List ℕ)
  pub name : Option (List ℕ)
  pub faults : ℕ

-- the sink after it took these bytes
abbrev pub took : SinkView → List ℕ → SinkView
took s bytes = record s { taken = grown s.taken bytes }

-- the sink after a call that failed
abbrev pub write_failed : SinkView → SinkView
write_failed s = record s { faults = raised s.faults }
