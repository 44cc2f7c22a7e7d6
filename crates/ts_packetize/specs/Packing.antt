-- How sections are laid into payloads.
-- ISO/IEC 13818-1, 2.4.4.1 and 2.4.4.2: sections follow one another, the pointer_field says where the first of them
-- begins, and stuffing comes after the last one. Where a payload is used by one section alone is this project's own rule.
use Rattle.std.specs.Prelude.{ℕ, ◌-◌, ◌==◌, nat_le, Bool, true, false, List, [], ◌∷◌, ◌++◌, length, take, drop, replicate, zero, suc, if◌then◌else◌}
use Rattle.std.specs.List.{flat_map}
use Rattle.ts_packet.specs.declared.numbers.TheConstants.{PAYLOAD_SIZE}

-- the payload of one packet, and its payload_unit_start_indicator
pub record Load : Type 0 where
  pub unit_start : Bool
  pub payload : List ℕ

-- the first 184 bytes, stuffed with 0xFF
abbrev pub filled : List ℕ → List ℕ
filled bytes = take PAYLOAD_SIZE bytes ++ replicate (PAYLOAD_SIZE - length bytes) 0xFF

-- the bytes of sections, one section after another
abbrev pub joined : List (List ℕ) → List ℕ
joined sections = flat_map (λ section. section) sections

-- of sections laid into a room of so many bytes: the bytes that are missing of the one that begins and does not end
unfoldable pub missing : ℕ → List (List ℕ) → List ℕ
missing room [] = []
missing room (s ∷ ss) = if room == 0 then [] else (if nat_le (length s) room then missing (room - length s) ss else drop room s)

-- and the ones that do not begin
unfoldable pub not_begun : ℕ → List (List ℕ) → List (List ℕ)
not_begun room [] = []
not_begun room (s ∷ ss) = if room == 0 then s ∷ ss else (if nat_le (length s) room then not_begun (room - length s) ss else ss)

-- a load, and what is left after it: bytes of a section that has begun, and sections that have not
pub record Step : Type 0 where
  pub load : Load
  pub rest : List ℕ
  pub sections : List (List ℕ)

-- a load without unit start, in which the bytes that are left continue alone
abbrev pub going_on : List ℕ → List (List ℕ) → Step
going_on rest sections = record {
  load = record { unit_start = false; payload = filled rest };
  rest = drop PAYLOAD_SIZE rest;
  sections = sections;
}

-- A load with unit start: the pointer_field, which is the number of bytes that are left; these bytes; and then
-- sections, one after another, the last of which may continue after the load. After the pointer_field there is
-- room for 183 bytes.
abbrev pub beginning : List ℕ → List (List ℕ) → Step
beginning rest sections = record {
  load = record { unit_start = true; payload = filled (length rest ∷ take 183 (rest ++ joined sections)) };
  rest = missing (183 - length rest) sections;
  sections = not_begun (183 - length rest) sections;
}

-- bytes continue alone where no section is left, or where no byte of one would fit into the load
abbrev pub goes_on_alone : List ℕ → List (List ℕ) → Bool
goes_on_alone rest [] = true
goes_on_alone rest (s ∷ ss) = nat_le 183 (length rest)

-- the next load of bytes that are left and of the sections after them
unfoldable pub next_step : List ℕ → List (List ℕ) → Step
next_step rest sections = if goes_on_alone rest sections then going_on rest sections else beginning rest sections

-- neither bytes nor sections are left
abbrev pub is_done : List ℕ → List (List ℕ) → Bool
is_done [] [] = true
is_done [] (s ∷ ss) = false
is_done (b ∷ rest) sections = false

-- the loads of the bytes that are left of a section and of the sections after it, at most so many
unfoldable pub pack : ℕ → List ℕ → List (List ℕ) → List Load
pack zero rest sections = []
pack (suc more) rest sections =
    if is_done rest sections then []
    else (let step = next_step rest sections in step.load ∷ pack more step.rest step.sections)

-- the loads of a list of sections; there are no more of them than bytes
abbrev pub packed : List (List ℕ) → List Load
packed sections = pack (length (joined sections)) [] sections
