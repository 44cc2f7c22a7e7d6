-- Files with bytes before or after each packet, and their packets without these. This project's own rule; a packet
-- has 188 bytes (ISO/IEC 13818-1, 2.4.3.2), with the 16 of a Reed-Solomon code 204 (EN 300 421, 4.4.2), and with the
-- four bytes that a Blu-ray disc has before it 192.
use Rattle.std.specs.Prelude.{ℕ, suc, ◌+◌, ◌-◌, ◌*◌, ◌%◌, ◌/◌, Bool, ◌&&◌, nat_le, nat_lt, if◌then◌else◌, List, [], ◌∷◌, ◌++◌, min}
use Rattle.packet_forms.specs.declared.forms.Form.{Form}
use Rattle.packet_forms.specs.declared.forms.Form.TheVariants.{Ts, M2ts, Rs204}

-- the number of bytes before the packet of a unit
abbrev pub lead : Form → ℕ
lead Ts = 0
lead M2ts = 4
lead Rs204 = 0

-- the size of a unit: a packet with the bytes before and after it
abbrev pub unit : Form → ℕ
unit Ts = 188
unit M2ts = 192
unit Rs204 = 204

-- whether the byte with this number in a file, from 0, belongs to a packet
abbrev pub is_of_packet : Form → ℕ → Bool
is_of_packet form number = nat_le (lead form) (number % unit form) && nat_lt (number % unit form) (lead form + 188)

-- the byte with this number, where it belongs to a packet
abbrev pub byte_of_packet : Form → ℕ → ℕ → List ℕ
byte_of_packet form number byte = if is_of_packet form number then byte ∷ [] else []

-- the bytes of packets, of bytes that come after so many others in a file
unfoldable pub stripped_from : Form → ℕ → List ℕ → List ℕ
stripped_from form number [] = []
stripped_from form number (byte ∷ bytes) = byte_of_packet form number byte ++ stripped_from form (suc number) bytes

-- the bytes of packets, of all bytes of a file
abbrev pub stripped : Form → List ℕ → List ℕ
stripped form bytes = stripped_from form 0 bytes

-- the number of bytes of packets among so many first bytes of a file
abbrev pub packet_bytes : Form → ℕ → ℕ
packet_bytes form count = (count / unit form) * 188 + min (count % unit form - lead form) 188

-- the number of bytes before the next one of a packet, after so many of a unit; 0 within a packet
abbrev pub to_packet : Form → ℕ → ℕ
to_packet form place =
    if nat_lt place (lead form) then lead form - place else if nat_lt place (lead form + 188) then 0 else unit form - place + lead form

-- the number of bytes of the packet still to come, after so many of a unit; 0 outside a packet
abbrev pub in_packet : Form → ℕ → ℕ
in_packet form place = if nat_lt place (lead form) then 0 else lead form + 188 - place
