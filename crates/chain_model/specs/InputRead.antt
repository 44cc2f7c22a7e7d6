-- What is read of an input, and what comes after a failed read. This project's own rule.
use Rattle.std.specs.Prelude.{◌≡◌, ◌⊎◌, ℕ, ◌+◌, ◌*◌, ◌≤◌, List}
use Rattle.ts_packet.specs.declared.numbers.TheConstants.{PACKET_SIZE}
use Rattle.chain_model.specs.declared.positions.TheConstants.{POSITION_LIMIT}
use Rattle.chain_model.specs.declared.input_end.InputEnd.TheVariants.{End, ReadFault}
use Rattle.chain_model.specs.Apply.{StageList}
use Rattle.chain_model.specs.InputList.{packets_of, input_of_bytes}
use Rattle.chain_model.specs.Stuffed.{Stuffing, stuffed}

-- a run that was cut at `cut` may have read so many bytes: as many as the buffer's packets after the cut have, or, where
-- the last position was reached, the packet after it
abbrev pub MayRead : ℕ → ℕ → ℕ → Type 0
MayRead buffer cut bytes =
    (bytes ≤ PACKET_SIZE * (cut + buffer))
    ⊎ ((POSITION_LIMIT ≤ cut + buffer) × (bytes ≤ PACKET_SIZE * (POSITION_LIMIT + 1)))

-- the list of an input of which a read failed after these bytes: the whole packets among them, with the stuffing
abbrev pub list_at_fault : Stuffing → List ℕ → StageList
list_at_fault stuffing read = stuffed stuffing (record { packets = packets_of read; ended = ReadFault })

-- these bytes show no lost sync: an input of these bytes alone would have a plain end
abbrev pub IsInSyncSoFar : List ℕ → Type 0
IsInSyncSoFar read = (left : ℕ) × ((input_of_bytes read).ended ≡ End left)
