-- The desk after an output was opened, written and closed. This project's own rule.
use Rattle.std.specs.Prelude.{◌≡◌, ℕ, ◌≤◌, List, [], ◌∷◌, length, take, Result, Ok, Err}
use Rattle.std.specs.Option.{option_map}
use Rattle.ts_outside.specs.declared.faults.Failed.{Failed}
use Rattle.ts_outside.specs.declared.requests.Purpose.TheVariants.{Output}
use Rattle.ts_outside.specs.Count.{raised}
use Rattle.ts_outside.specs.Told.{grown}
use Rattle.ts_outside.specs.Sink.{SinkView}
use Rattle.ts_outside.specs.Desk.{DeskView, asked_well, asked_in_vain}
use Rattle.tabcomp_top.specs.declared.status.TabStatus.{TabStatus}
use Rattle.tabcomp_top.specs.declared.status.TabStatus.TheVariants.{Done, NoMemory, WriteFault}

-- the desk after an output of this name that took these bytes was closed, and nothing went wrong
abbrev pub closed : DeskView → List ℕ → List ℕ → DeskView
closed desk name bytes = record desk { outputs = grown desk.outputs ((name, bytes) ∷ []) }

-- the same, but writing or closing it failed
abbrev pub closed_short : DeskView → List ℕ → List ℕ → DeskView
closed_short desk name bytes =
    record desk {
      outputs = grown desk.outputs ((name, bytes) ∷ []);
      write_faults = raised desk.write_faults;
    }

-- how the writing of an output ended
pub data PutEnd : Type 0 where
  -- it was not opened
  not_opened : PutEnd
  -- it was opened, and writing or closing it failed after the first `count` bytes
  cut_short : (count : ℕ) → PutEnd
  -- all was written, and it was closed
  written : PutEnd
  -- out of memory at the opening
  out_of_memory : PutEnd

-- the status of that end
abbrev pub status_of_put : PutEnd → TabStatus
status_of_put not_opened = WriteFault
status_of_put (cut_short count) = WriteFault
status_of_put written = Done
status_of_put out_of_memory = NoMemory

-- the desk after that
abbrev pub desk_after_put : DeskView → List ℕ → List ℕ → PutEnd → DeskView
desk_after_put desk name bytes not_opened = asked_in_vain desk Output name
desk_after_put desk name bytes (cut_short count) = closed_short (asked_well desk Output name) name (take count bytes)
desk_after_put desk name bytes written = closed (asked_well desk Output name) name bytes
desk_after_put desk name bytes out_of_memory = desk

-- no more bytes are written than there are
abbrev pub CanPut : List ℕ → PutEnd → Type 0
CanPut bytes (cut_short count) = count ≤ length bytes
CanPut bytes _ = Unit {0}

-- a call wrote these bytes to an output of this name, or ended as it may
pub record Puts (name bytes : List ℕ) (old new : DeskView) (status : TabStatus) : Type 0 where
  pub end : PutEnd
  pub can_end : CanPut bytes end
  pub status_is : status ≡ status_of_put end
  pub desk_is : new ≡ desk_after_put old name bytes end

-- a sink of this name that was just opened
abbrev pub new_sink : DeskView → List ℕ → SinkView
new_sink desk name =
    record {
      taken = option_map (λ _. []) desk.outputs;
      name = option_map (λ _. name) desk.outputs;
      faults = 0;
    }

-- an output of this name, open and empty, took these bytes and was closed; or writing or closing it
-- failed
abbrev pub Closes : {T : Type 0} → List ℕ → List ℕ → DeskView → DeskView → Result T Failed → Type 0
Closes name bytes old new (Ok x) = new ≡ closed old name bytes
Closes name bytes old new (Err fault) = (count : ℕ) × (count ≤ length bytes) × (new ≡ closed_short old name (take count bytes))
