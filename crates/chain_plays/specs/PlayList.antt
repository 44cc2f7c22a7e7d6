-- The list of a play, and how a play of it may end. This project's own rule.
use Rattle.std.specs.Prelude.{◌≡◌, ℕ, ◌≤◌, List, length, Some}
use Rattle.chain_model.specs.declared.cause.Cause.{Cause}
use Rattle.chain_model.specs.declared.cause.Cause.TheVariants as cause
use Rattle.chain_model.specs.declared.input_end.InputEnd.{InputEnd}
use Rattle.chain_model.specs.declared.input_end.InputEnd.TheVariants.{End, Sync, ReadFault, TooLong}
use Rattle.chain_model.specs.Apply.{StageList, input_over}
use Rattle.chain_model.specs.InputList.{input_of_bytes}
use Rattle.chain_model.specs.Stuffed.{no_stuffing, stuffed}
use Rattle.chain_plays.specs.declared.played.PlayEnd.{PlayEnd}
use Rattle.chain_plays.specs.declared.played.PlayEnd.TheVariants.{Input, WriteFault}

-- the list of a play: the packets of its file's bytes, without labels, and how it ends
abbrev pub play_of : List ℕ → StageList
play_of bytes = stuffed no_stuffing (input_of_bytes bytes)

-- an end of a play, as a cause
abbrev pub cause_of : PlayEnd → Cause
cause_of (Input how) = cause.Input how
cause_of WriteFault = cause.WriteFault

-- all packets of the list were given, and that is how it ends
pub record GivesAll (list : StageList) (count : ℕ) (how : InputEnd) : Type 0 where
  pub whole : count ≡ length list.cells
  pub ended : list.ended ≡ Some (input_over how)

-- a play that gave so many packets of its list ended so: as the list does, or by a fault before
abbrev pub EndsAs : StageList → ℕ → PlayEnd → Type 0
EndsAs list count (Input (End left)) = GivesAll list count (End left)
EndsAs list count (Input (Sync packet)) = GivesAll list count (Sync packet)
EndsAs list count (Input ReadFault) = count ≤ length list.cells
EndsAs list count (Input TooLong) = GivesAll list count TooLong
EndsAs list count WriteFault = count ≤ length list.cells
