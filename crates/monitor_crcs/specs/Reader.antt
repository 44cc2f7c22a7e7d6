-- What the reader of pieces with a wrong CRC keeps, and what it means; it reads as the demultiplexer does.
-- This project's own rule.
use Rattle.std.specs.Prelude.{◌≡◌, ℕ, ◌≤◌, ◌<◌, Bool, true, false, List, [], ◌∷◌, ◌++◌, length, Option, Some, None, if◌then◌else◌}
use Rattle.std.specs.Option.{ForSome, option_map, option_to_list}
use Rattle.ts_demux.specs.Part.{Part}
use Rattle.ts_demux.specs.Counters.{goes_on_after}
use Rattle.ts_demux.specs.Cut.{is_whole_in_front}
use Rattle.monitor_crcs.specs.WrongCrcs.{told_in, told_of_parts}
use Rattle.monitor_crcs.specs.declared.reader.PieceReader.{PieceReader}

-- a part with this counter that begins a stretch with these bytes, or one that has no bytes at all
abbrev pub part_of : Bool → List ℕ → ℕ → Part
part_of is_open bytes counter =
    record { counter = counter; unit_start = is_open; payload = if is_open then 0 ∷ bytes else [] }

-- The one part that a reader remembers in place of all that it was given: after it the same is told of a stream that goes on.
abbrev pub remembered_by : PieceReader → Option Part
remembered_by r = option_map (part_of r.is_open r.unfinished.items) r.last

-- what is told of an open stretch with these bytes, which goes on with more; of a closed one nothing
abbrev pub told_after : Bool → List ℕ → List ℕ → List ℕ
told_after is_open bytes more = if is_open then told_in (bytes ++ more) else []

-- the same for a reader's stretch
abbrev pub told_with : PieceReader → List ℕ → List ℕ
told_with r more = told_after r.is_open r.unfinished.items more

-- a reader keeps less than one section, and nothing of a closed stretch
pub record HoldsLittle (r : PieceReader) : Type 0 where
  pub closed : r.is_open ≡ false → r.unfinished.items ≡ []
  pub not_whole : is_whole_in_front r.unfinished.items ≡ false
  pub less_than_one : length r.unfinished.items ≤ 4095

-- and between two packets no stretch is open before the first
pub record IsAtRest (r : PieceReader) : Type 0 where
  pub little : HoldsLittle r
  pub counter : ForSome r.last (λ counter. counter < 16)
  pub begun : r.last ≡ None → r.is_open ≡ false

-- before a part with this counter a reader gives up its stretch where the counter does not go on
pub record EndsAtJump (old new : PieceReader) (counter : ℕ) : Type 0 where
  pub last : new.last ≡ Some counter
  pub closed : new.is_open ≡ false → new.unfinished.items ≡ []
  pub same_open : goes_on_after old.last counter ≡ true → new.is_open ≡ old.is_open
  pub same_bytes : goes_on_after old.last counter ≡ true → new.unfinished.items ≡ old.unfinished.items
  pub ends : goes_on_after old.last counter ≡ false → new.is_open ≡ false

-- what a reader gives for a part: however the stream goes on, what is told of it is what waits now, followed by what the new
-- reader has to come
pub record Takes (old new : PieceReader) (part : Part) (before after : List ℕ) : Type 0 where
  pub told : (rest : List Part) →
      before ++ told_of_parts (option_to_list (remembered_by old) ++ (part ∷ rest))
      ≡ after ++ told_of_parts (option_to_list (remembered_by new) ++ rest)
  pub grows : length before ≤ length after

-- the parts of a reader of wrong CRCs: what it keeps is at rest, and nothing waits after a call ran out of memory
pub record IsSound (reader : PieceReader) (waiting : List ℕ) (failed : Bool) : Type 0 where
  pub rest : IsAtRest reader
  pub spent : failed ≡ true → waiting ≡ []
