-- Which packet of the contents is put in, after so many others. This project's own rule. Of the packets that were put
-- in, which are numbered from 0, a list of marks says which group each began a section of, or that it continued one;
-- the newest stands first.
use Rattle.std.specs.Prelude.{ℕ, zero, suc, ◌+◌, ◌%◌, ◌==◌, nat_le, Bool, false, true, List, [], ◌∷◌, count_by, drop, length, Option, Some, None, slice_get, unwrap_or, if◌then◌else◌}
use Rattle.std.specs.List.{list_all, position}
use Rattle.std.specs.Option.{option_map, option_map_or}
use Rattle.ts_packet.specs.Header.{with_counter}
use Rattle.ts_packetize.specs.Cycle.{due, first_row}
use Rattle.plug_inject.specs.Contents.{Contents, Group, cycle, groups}
use Rattle.plug_inject.specs.declared.turn.Turn.{Turn}

-- a packet with this mark began a section of the group with this place
abbrev pub begins : ℕ → Option ℕ → Bool
begins place None = false
begins place (Some other) = other == place

-- the number of the last packet that began a section of the group
unfoldable pub last_begun : ℕ → List (Option ℕ) → Option ℕ
last_begun place [] = None
last_begun place (mark ∷ older) = if begins place mark then Some (length older) else last_begun place older

-- how many packets began one
abbrev pub times_begun : ℕ → List (Option ℕ) → ℕ
times_begun place marks = count_by (begins place) marks

-- what counts for the turn of each of some groups, the first of which has this place
unfoldable pub turns_from : ℕ → List Group → List (Option ℕ) → List Turn
turns_from place [] marks = []
turns_from place (group ∷ others) marks =
    record { distance = group.distance; last = last_begun place marks; count = times_begun place marks }
    ∷ turns_from (suc place) others marks

-- The packet with this number may begin a section of the group: none of the packets just before it did, which are one
-- fewer than the distance.
abbrev pub is_due : ℕ → Turn → Bool
is_due number turn = option_map_or (λ last. nat_le (last + turn.distance) number) turn.last true

-- no group's last section was begun before that of this one
abbrev pub is_oldest : List Turn → Turn → Bool
is_oldest turns turn = list_all (λ other. nat_le (unwrap_or turn.last 0) (unwrap_or other.last 0)) turns

-- the place of the group whose section the packet with this number begins: the first that may come, or else the one
-- whose last was begun first
abbrev pub chosen : List Turn → ℕ → ℕ
chosen turns number = unwrap_or (position (is_due number) turns) (unwrap_or (position (is_oldest turns) turns) 0)

-- the packets of a section of a group, by their places
abbrev pub packets_at : List Group → ℕ → ℕ → List (List ℕ)
packets_at some place number =
    option_map_or (λ group. unwrap_or (slice_get group.sections number) []) (slice_get some place) []

-- the place of the section that is next in its group after so many of them: they go round in their order
abbrev pub section_after : List Group → ℕ → ℕ → ℕ
section_after some place times = option_map_or (λ group. times % length group.sections) (slice_get some place) 0

-- the marks of the packets that were put in, and the packets that are left of the section that is being given
pub record Given : Type 0 where
  pub marks : List (Option ℕ)
  pub left : List (List ℕ)

-- the group whose section is begun next
abbrev pub next_group : List Group → Given → ℕ
next_group some given = chosen (turns_from 0 some given.marks) (length given.marks)

-- the packets of the section that is begun next
abbrev pub next_section : List Group → Given → List (List ℕ)
next_section some given =
    let place = next_group some given in
    packets_at some place (section_after some place (times_begun place given.marks))

-- the packets from the next one on to the end of its section
abbrev pub coming : List Group → Given → List (List ℕ)
coming some given = due given.left (next_section some given)

-- the mark of the next packet: it begins a section where none is left of one
abbrev pub mark_of : List (List ℕ) → ℕ → Option ℕ
mark_of [] place = Some place
mark_of (row ∷ rows) place = None

-- after one packet more
abbrev pub given_next : List Group → Given → Given
given_next some given = record {
  marks = mark_of given.left (next_group some given) ∷ given.marks;
  left = drop 1 (coming some given);
}

-- after so many packets
unfoldable pub given_after : List Group → ℕ → Given
given_after some zero = record { marks = []; left = [] }
given_after some (suc number) = given_next some (given_after some number)

-- the packet that is put in after so many others
abbrev pub row_after : Contents → ℕ → Option (List ℕ)
row_after (cycle rows) number = slice_get rows (number % length rows)
row_after (groups some) number = first_row (coming some (given_after some number))

-- and as it is put in: with their number, modulo 16, as its continuity counter
abbrev pub packet_after : Contents → ℕ → Option (List ℕ)
packet_after contents before =
    option_map (λ packet. with_counter packet (before % 16)) (row_after contents before)
