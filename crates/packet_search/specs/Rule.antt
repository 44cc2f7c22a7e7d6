-- Where packets are in bytes with damage: what a place of the bytes is. This project's own rule. Five sync bytes in a row
-- to find packets, and two wanting in a row to lose them, are those of ETSI TR 101 290, 5.2.1 (TS_sync_loss); the
-- sync byte is that of ISO/IEC 13818-1, 2.4.3.3.
use Rattle.std.specs.Prelude.{ℕ, zero, suc, ◌+◌, ◌-◌, ◌*◌, Bool, true, false, not, ◌&&◌, ◌||◌, nat_le, nat_eq, if◌then◌else◌, List, length, drop, slice_index}
use Rattle.ts_packet.specs.declared.numbers.TheConstants.{SYNC_BYTE}
use Rattle.packet_forms.specs.declared.forms.Form.{Form}
use Rattle.packet_forms.specs.Stripped.{lead, unit}

-- these bytes begin with a unit whose packet is all there and begins with the sync byte; a last unit may lack what
-- stands behind its packet
unfoldable pub is_whole : Form → List ℕ → Bool
is_whole form bytes = nat_le (lead form + 188) (length bytes) && nat_eq (slice_index bytes (lead form)) SYNC_BYTE

-- they begin with so many such units, one behind another
unfoldable pub in_row : Form → ℕ → List ℕ → Bool
in_row form zero bytes = true
in_row form (suc n) bytes = is_whole form bytes && in_row form n (drop (unit form) bytes)

-- five in a row begin behind one of so many first bytes
unfoldable pub five_within : Form → ℕ → List ℕ → Bool
five_within form zero bytes = false
five_within form (suc n) bytes = in_row form 5 (drop (suc n) bytes) || five_within form n bytes

-- how many of so many units, one behind another, are whole
unfoldable pub whole_among : Form → ℕ → List ℕ → ℕ
whole_among form zero bytes = 0
whole_among form (suc n) bytes = (if is_whole form bytes then 1 else 0) + whole_among form n (drop (unit form) bytes)

-- of the four units behind the first one at least two are whole
unfoldable pub is_held : Form → List ℕ → Bool
is_held form bytes = nat_le 2 (whole_among form 4 (drop (unit form) bytes))

-- five in a row begin within the first unit of these bytes, and it is not held by those behind it: bytes are missing,
-- and what looks like this unit has the beginning of another one in it
unfoldable pub is_cut : Form → List ℕ → Bool
is_cut form bytes = five_within form (unit form - 1) bytes && not (is_held form bytes)

-- a packet is here: five are in a row, or a unit ends right before (`near`) and this one is whole and not cut
unfoldable pub gives : Form → Bool → List ℕ → Bool
gives form near bytes = in_row form 5 bytes || (near && (is_whole form bytes && not (is_cut form bytes)))

-- a unit is here, with a packet or with one whose sync byte alone is wanting: the next one has it
unfoldable pub stays : Form → Bool → List ℕ → Bool
stays form near bytes = gives form near bytes || (near && (is_whole form (drop (unit form) bytes) && not (is_cut form bytes)))

-- how many bytes go on with the first one of these: the others of its unit, or none
unfoldable pub past : Form → Bool → List ℕ → ℕ
past form near bytes = if stays form near bytes then unit form - 1 else 0

-- how many bytes decide what a place is, whatever follows: those of six units
abbrev pub deciding_bytes : Form → ℕ
deciding_bytes form = 6 * unit form
