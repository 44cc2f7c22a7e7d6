-- ISO/IEC 13818-1, 2.4.3.3: the payload is what follows the header and the adaptation field.
use Rattle.std.specs.Prelude.{ℕ, ◌+◌, List, [], ◌++◌, length, take, drop, ◌==◌, Option, Some, None, if◌then◌else◌}
use Rattle.std.specs.Option.{option_map}
use Rattle.ts_packet.specs.Header.{adaptation_control_of}
use Rattle.ts_packet.specs.Adaptation.{adaptation_length_of}

-- the place of the packet's first payload byte, if it has a payload: 4 without an adaptation field,
-- after a valid adaptation field where it has one
unfoldable pub payload_start_of : List ℕ → Option ℕ
payload_start_of row =
    if adaptation_control_of row == 1 then Some 4
    else (if adaptation_control_of row == 3 then option_map (λ len. 5 + len) (adaptation_length_of row) else None)

-- the bytes from a place on; empty where there is no place
abbrev pub from_place : Option ℕ → List ℕ → List ℕ
from_place None row = []
from_place (Some place) row = drop place row

-- the packet's payload bytes
unfoldable pub payload_of : List ℕ → List ℕ
payload_of row = from_place (payload_start_of row) row

-- a row with a piece copied over it from a place on
abbrev pub with_piece : List ℕ → ℕ → List ℕ → List ℕ
with_piece row at piece = take at row ++ (piece ++ drop (at + length piece) row)
