-- Sections of a PID edited as they pass, and the packets that leave there.
-- ISO/IEC 13818-1, 2.4.4.1 and 2.4.4.2: sections follow one another, and the pointer_field says where the first of them
-- begins. This project's own rule: each packet of the PID gives way to the next one of the packing of the edited sections,
-- each of which is given once, from the packet with which it is complete on; where none waits, to a null packet. A
-- scrambled packet passes.
use Rattle.std.specs.Prelude.{◌≡◌, ℕ, ◌+◌, ◌%◌, ◌==◌, Bool, true, bytes_eq, not, List, [], ◌∷◌, ◌++◌, length, drop, Option, Some, None, if◌then◌else◌}
use Rattle.std.specs.List.{filter_map}
use Rattle.ts_packet.specs.Header.{pid_of, scrambling_of, has_payload_of}
use Rattle.ts_packet.specs.Packet.{null_packet}
use Rattle.ts_section.specs.ValidSection.{IsSection}
use Rattle.ts_demux.specs.SectionsOfPid.{sections_of_pid}
use Rattle.ts_packetize.specs.Packing.{is_done, next_step}
use Rattle.ts_packetize.specs.Packets.{packet_with}
use Rattle.plug_inject.specs.Counted.{counted_on}

-- What becomes of a section, after the packets that were met, of any PID, with that which completes it: it as it is,
-- another one, or none.
abbrev pub Edit : Type 0
Edit = List (List ℕ) → List ℕ → Option (List ℕ)

-- something else, or nothing, becomes of a section
abbrev pub is_altered : List ℕ → Option (List ℕ) → Bool
is_altered section None = true
is_altered section (Some new) = not (bytes_eq new section)

-- the same by what becomes of all sections
abbrev pub alters : (List ℕ → Option (List ℕ)) → List ℕ → Bool
alters now section = is_altered section (now section)

-- What waits between two packets: the bytes that are left of a section that has begun, and the sections that have not.
-- The number is that of the packets with a payload that left on the PID.
pub record Waiting : Type 0 where
  pub rest : List ℕ
  pub sections : List (List ℕ)
  pub number : ℕ

-- before the first packet
abbrev pub nothing_waits : Waiting
nothing_waits = record { rest = []; sections = []; number = 0 }

-- and where some sections join
abbrev pub with_sections : Waiting → List (List ℕ) → Waiting
with_sections waiting ready = record waiting { sections = waiting.sections ++ ready }

-- what leaves in the place of a packet, and what waits then
pub record Given : Type 0 where
  pub packet : List ℕ
  pub waiting : Waiting

-- The next packet of what waits. The bytes that are left come first, and a section that waits begins right after them,
-- in the same packet; no packet waits for a section that is not complete yet.
abbrev pub next_given : ℕ → Waiting → Given
next_given pid waiting =
    let step = next_step waiting.rest waiting.sections in
    if is_done waiting.rest waiting.sections then record { packet = null_packet; waiting = waiting }
    else record {
      packet = packet_with pid (waiting.number % 16) step.load;
      waiting = record { rest = step.rest; sections = step.sections; number = waiting.number + 1 };
    }

-- A packet that passes has the counter that goes on. ISO/IEC 13818-1, 2.4.3.3: it rises with each packet with a payload.
abbrev pub passed : ℕ → Waiting → List ℕ → Given
passed pid waiting packet = record {
  packet = counted_on pid waiting.number packet;
  waiting = record waiting { number = waiting.number + (if has_payload_of packet then 1 else 0) };
}

-- what leaves in the place of a packet: a packet of another PID stays as it is
unfoldable pub given_for : ℕ → Waiting → List ℕ → Given
given_for pid waiting packet =
    if pid_of packet == pid then (if scrambling_of packet == 0 then next_given pid waiting else passed pid waiting packet)
    else record { packet = packet; waiting = waiting }

-- the sections that a packet completes, after the packets that were met before it
abbrev pub completed_by : ℕ → List (List ℕ) → List ℕ → List (List ℕ)
completed_by pid met packet = drop (length (sections_of_pid pid met)) (sections_of_pid pid (met ++ packet ∷ []))

-- what becomes of them
abbrev pub ready_with : ℕ → Edit → List (List ℕ) → List ℕ → List (List ℕ)
ready_with pid edit met packet = filter_map (edit (met ++ packet ∷ [])) (completed_by pid met packet)

-- what leaves in the place of a packet, where something waits after the packets that were met before it
abbrev pub given_after : ℕ → Edit → List (List ℕ) → Waiting → List ℕ → Given
given_after pid edit met waiting packet = given_for pid (with_sections waiting (ready_with pid edit met packet)) packet

-- what waits after some more packets
unfoldable pub waiting_from : ℕ → Edit → List (List ℕ) → Waiting → List (List ℕ) → Waiting
waiting_from pid edit met waiting [] = waiting
waiting_from pid edit met waiting (packet ∷ packets) =
    waiting_from pid edit (met ++ packet ∷ []) (given_after pid edit met waiting packet).waiting packets

-- and what left in their places
unfoldable pub given_from : ℕ → Edit → List (List ℕ) → Waiting → List (List ℕ) → List (List ℕ)
given_from pid edit met waiting [] = []
given_from pid edit met waiting (packet ∷ packets) =
    let given = given_after pid edit met waiting packet in
    given.packet ∷ given_from pid edit (met ++ packet ∷ []) given.waiting packets

-- what waits after the packets that were met
abbrev pub waiting_after : ℕ → Edit → List (List ℕ) → Waiting
waiting_after pid edit met = waiting_from pid edit [] nothing_waits met

-- what leaves in the places of all packets that were met
abbrev pub all_given : ℕ → Edit → List (List ℕ) → List (List ℕ)
all_given pid edit met = given_from pid edit [] nothing_waits met

-- what leaves in the place of the next packet
unfoldable pub replaced : ℕ → Edit → List (List ℕ) → List ℕ → List ℕ
replaced pid edit met packet = (given_after pid edit met (waiting_after pid edit met) packet).packet

-- what becomes of the sections that packets complete, one packet after another
unfoldable pub edited_from : ℕ → Edit → List (List ℕ) → List (List ℕ) → List (List ℕ)
edited_from pid edit met [] = []
edited_from pid edit met (packet ∷ packets) = ready_with pid edit met packet ++ edited_from pid edit (met ++ packet ∷ []) packets

-- what becomes of all sections of the packets that were met
abbrev pub edited_of : ℕ → Edit → List (List ℕ) → List (List ℕ)
edited_of pid edit met = edited_from pid edit [] met

-- what becomes of a section is a section
abbrev pub GivesSections : Edit → Type 0
GivesSections edit = (met : List (List ℕ)) (section new : List ℕ) → edit met section ≡ Some new → IsSection new

-- a packet of the PID is not scrambled
abbrev pub IsClear : ℕ → List ℕ → Type 0
IsClear pid packet = (pid_of packet == pid) ≡ true → (scrambling_of packet == 0) ≡ true

-- nothing waits
abbrev pub is_empty : Waiting → Bool
is_empty waiting = is_done waiting.rest waiting.sections
