-- ISO/IEC 13818-1, 2.4.3.2: the fields of the packet header, by their places in the row of bits.
use Rattle.std.specs.Prelude.{ℕ, ◌+◌, ◌-◌, ◌*◌, ◌/◌, ◌%◌, ◌^◌, List, Bool, true, false, ◌==◌, slice_index, slice_set}
use Rattle.ts_bit_rows.specs.BitRow.{field}

-- transport_error_indicator
abbrev pub error_indicator_of : List ℕ → Bool
error_indicator_of row = field row 8 1 == 1

-- payload_unit_start_indicator
abbrev pub unit_start_of : List ℕ → Bool
unit_start_of row = field row 9 1 == 1

-- transport_priority
abbrev pub priority_of : List ℕ → Bool
priority_of row = field row 10 1 == 1

-- PID
abbrev pub pid_of : List ℕ → ℕ
pid_of row = field row 11 13

-- transport_scrambling_control
abbrev pub scrambling_of : List ℕ → ℕ
scrambling_of row = field row 24 2

-- adaptation_field_control
abbrev pub adaptation_control_of : List ℕ → ℕ
adaptation_control_of row = field row 26 2

-- continuity_counter
abbrev pub counter_of : List ℕ → ℕ
counter_of row = field row 28 4

-- the low bit of the adaptation field control: the packet has a payload
abbrev pub has_payload_of : List ℕ → Bool
has_payload_of row = field row 27 1 == 1

-- the bit that a Bool is written as
abbrev pub flag_of : Bool → ℕ
flag_of true = 1
flag_of false = 0

-- a byte with its `count` bits from place `first` on, highest first, replaced by a value
abbrev pub byte_with : ℕ → ℕ → ℕ → ℕ → ℕ
byte_with byte first count value =
    byte / 2 ^ (8 - first) * 2 ^ (8 - first) + value * 2 ^ (8 - first - count) + byte % 2 ^ (8 - first - count)

-- a row with those bits of its byte at a place replaced
abbrev pub row_with : List ℕ → ℕ → ℕ → ℕ → ℕ → List ℕ
row_with row place first count value = slice_set row place (byte_with (slice_index row place) first count value)

-- the row with this transport_error_indicator
unfoldable pub with_error_indicator : List ℕ → Bool → List ℕ
with_error_indicator row on = row_with row 1 0 1 (flag_of on)

-- the row with this payload_unit_start_indicator
unfoldable pub with_unit_start : List ℕ → Bool → List ℕ
with_unit_start row on = row_with row 1 1 1 (flag_of on)

-- the row with this transport_priority
unfoldable pub with_priority : List ℕ → Bool → List ℕ
with_priority row on = row_with row 1 2 1 (flag_of on)

-- the row with this PID
unfoldable pub with_pid : List ℕ → ℕ → List ℕ
with_pid row pid = slice_set (row_with row 1 3 5 (pid / 256)) 2 (pid % 256)

-- the row with this transport_scrambling_control
unfoldable pub with_scrambling : List ℕ → ℕ → List ℕ
with_scrambling row control = row_with row 3 0 2 control

-- the row with this adaptation_field_control
unfoldable pub with_adaptation_control : List ℕ → ℕ → List ℕ
with_adaptation_control row control = row_with row 3 2 2 control

-- the row with this continuity_counter
unfoldable pub with_counter : List ℕ → ℕ → List ℕ
with_counter row counter = row_with row 3 4 4 counter
