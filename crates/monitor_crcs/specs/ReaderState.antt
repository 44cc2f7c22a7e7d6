-- What a reader of wrong CRCs is seen as, and when it stands for the packets that it was fed.
-- This project's own rule.
use Rattle.std.specs.Prelude.{◌≡◌, ℕ, ◌+◌, Bool, false, List, [], ◌∷◌, ◌++◌, length, Option}
use Rattle.std.specs.Option.{option_to_list}
use Rattle.ts_demux.specs.Part.{Part}
use Rattle.ts_demux.specs.CountedPackets.{counted_packets}
use Rattle.monitor_crcs.specs.WrongCrcs.{told_of_parts, told_of_pid}

-- The PID, the one part that is remembered in place of all packets fed, the table_ids that wait, and whether a call ran
-- out of memory.
pub record ReaderState : Type 0 where
  pub pid : ℕ
  pub remembered : Option Part
  pub waiting : List ℕ
  pub failed : Bool

-- a reader of this PID stands for the packets fed and the table_ids returned
pub record StandsFor (reader : ReaderState) (pid : ℕ) (fed : List (List ℕ)) (given : List ℕ) : Type 0 where
  pub same_pid : reader.pid ≡ pid
  pub working : reader.failed ≡ false
  -- the table_ids returned and those that wait are what is told of all packets fed
  pub told : told_of_pid pid fed ≡ given ++ reader.waiting
  -- and however the stream goes on, the remembered part stands for the packets fed
  pub to_come : (rest : List (List ℕ)) →
      told_of_pid pid (fed ++ rest)
      ≡ given ++ reader.waiting ++ told_of_parts (option_to_list reader.remembered ++ counted_packets pid rest)

-- a reader that stands for packets stands for one more, with which so many more are told
pub record TakesIn (old new : ReaderState) (packet : List ℕ) (completed : ℕ) : Type 0 where
  pub stands : (pid : ℕ) (fed : List (List ℕ)) (given : List ℕ) → StandsFor old pid fed given →
      StandsFor new pid (fed ++ packet ∷ []) given
  pub grown : (pid : ℕ) (fed : List (List ℕ)) (given : List ℕ) → StandsFor old pid fed given →
      length (told_of_pid pid (fed ++ packet ∷ [])) ≡ length (told_of_pid pid fed) + completed
  pub waits : length new.waiting ≡ length old.waiting + completed

-- a reader that stands for returned table_ids stands for one more, the first that waits
pub record GivesFirst (old new : ReaderState) (table : ℕ) : Type 0 where
  pub first : old.waiting ≡ table ∷ new.waiting
  pub stands : (pid : ℕ) (fed : List (List ℕ)) (given : List ℕ) → StandsFor old pid fed given →
      StandsFor new pid fed (given ++ table ∷ [])
