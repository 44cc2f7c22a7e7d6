-- When an editor's parts stand for the packets that it processed, and what its steps do to its cycle.
-- This project's own rule.
use Rattle.std.specs.Prelude.{◌≡◌, ℕ, ◌<◌, ◌+◌, ◌%◌, Bool, false, List, [], ◌++◌, length, suc}
use Rattle.std.specs.Option.{option_to_list}
use Rattle.ts_packetize.specs.Cycle.{CycleState}
use Rattle.ts_packetize.specs.Ordinals.{Cycles, packet_at, written_before, in_place, left_before}
use Rattle.plug_psi.specs.Edits.{Change}
use Rattle.plug_psi.specs.EditedCycles.{EditsInUse, cycles_by, edited_packets}
use Rattle.plug_psi.specs.ContentsState.{HasContents}
use Rattle.plug_psi.specs.declared.contents.Contents.{Contents}

-- the rest of a cycle, and a counter, are those before an ordinal
pub record StandsAt (cycle : Cycles) (n : ℕ) (left : List (List ℕ)) (counter : ℕ) : Type 0 where
  pub left_over : left ≡ left_before cycle n
  pub counts : counter ≡ written_before cycle n % 16

-- An editor's parts stand for the packets that it processed, under the edits that were in use at them: whatever edits and
-- packets follow, its cycle and its counter are those before the next packet. Unless contents or edit changed since, the next
-- cycle already has the packets of the contents under the edit that is in use now.
pub record Edits (pid : ℕ) (edits : EditsInUse) (edit : List (List ℕ) → Change) (contents : Contents) (cycle : CycleState) (counter : ℕ) (changed : Bool) (taken : List (List ℕ)) : Type 0 where
  pub contents_taken : HasContents contents pid taken
  pub same_pid : cycle.pid ≡ pid
  pub to_come : (later : EditsInUse) (more : List (List ℕ)) → ((s : ℕ) → s < length taken → later s ≡ edits s) →
      StandsAt (cycles_by pid later (taken ++ more)) (length taken) cycle.left counter
  pub unchanged : changed ≡ false → cycle.contents ≡ edited_packets pid edit taken

-- What a renewal does to a cycle, whose next contents were the expected packets already if nothing had changed. The rest of
-- the cycle that runs stays. If no change is left over, the next cycle has the expected packets; and if no cycle runs, no
-- change is left over.
pub record Renewed (old new : CycleState) (changed still : Bool) (wanted : List (List ℕ)) : Type 0 where
  pub same_left : new.left ≡ old.left
  pub same_pid : new.pid ≡ old.pid
  pub begins : old.left ≡ [] → still ≡ false
  pub known : still ≡ false → (changed ≡ false → old.contents ≡ wanted) → new.contents ≡ wanted

-- what is put instead of the packet with an ordinal, the counter after it, and the rest of the cycle then
pub record PlacesAt (cycle : Cycles) (n counter : ℕ) (packet : List ℕ) (behind : ℕ) (left : List (List ℕ)) : Type 0 where
  pub placed : packet ≡ in_place counter (packet_at cycle n)
  pub counted : behind ≡ (counter + length (option_to_list (packet_at cycle n))) % 16
  pub left_over : left ≡ left_before cycle (suc n)

-- What a cycle puts in the next packet's place, if its rest is the rest before an ordinal, and if its contents, where a
-- cycle starts, are those of the cycle that starts there.
pub record NextInPlace (old new : CycleState) (counter : ℕ) (packet : List ℕ) (behind : ℕ) : Type 0 where
  pub same_pid : new.pid ≡ old.pid
  pub same_contents : new.contents ≡ old.contents
  pub at_ordinal : (cycle : Cycles) (n : ℕ) → old.left ≡ left_before cycle n → (old.left ≡ [] → old.contents ≡ cycle n) →
      PlacesAt cycle n counter packet behind new.left
