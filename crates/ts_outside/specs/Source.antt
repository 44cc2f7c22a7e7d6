-- Sources: where bytes come from. This project's own rule.
use Rattle.std.specs.Prelude.{ℕ, List, Option, None}
use Rattle.ts_outside.specs.Count.{raised}
use Rattle.ts_outside.specs.Told.{before}

-- the origin of a source that leaves out some bytes of another source: the length of the units in which it leaves
-- some out, and the bytes that the other source had to come when it was taken, known or not
pub record Origin : Type 0 where
  pub unit : ℕ
  pub bytes : Option (List ℕ)

-- the origin of a source that leaves out nothing
abbrev pub own_bytes : Origin
own_bytes = record { unit = 0; bytes = None }

-- what contracts see of a source: the bytes still to come, known or not, the count of its faults, and where its bytes
-- are from, which no call changes
pub record SourceView : Type 0 where
  pub left : Option (List ℕ)
  pub faults : ℕ
  pub origin : Origin

-- the source as it was before it gave these bytes
abbrev pub unread : List ℕ → SourceView → SourceView
unread bytes s = record s { left = before bytes s.left }

-- the source after a call that failed
abbrev pub read_failed : SourceView → SourceView
read_failed s = record s { faults = raised s.faults }
