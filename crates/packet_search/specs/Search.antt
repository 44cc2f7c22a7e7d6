-- The packets of bytes with damage, and what is left out between them. This project's own rule: from the first byte on,
-- where a packet is, it is found, and its unit is past; where a unit is whose sync byte alone is wanting, that unit is
-- left out; elsewhere one byte is. A file's first byte counts as one right behind a unit.
use Rattle.std.specs.Prelude.{ℕ, zero, suc, ◌+◌, Bool, true, if◌then◌else◌, List, [], ◌∷◌, ◌++◌, take, drop, map}
use Rattle.packet_forms.specs.declared.forms.Form.{Form}
use Rattle.packet_forms.specs.Stripped.{lead, unit}
use Rattle.packet_search.specs.Rule.{gives, stays, past}

-- a packet, and how many bytes are left out between the unit before it and its own
pub record Found : Type 0 where
  pub left_out : ℕ
  pub packet : List ℕ

-- the packets that are found, and how many bytes are left out behind the last one's unit
pub record Searched : Type 0 where
  pub found : List Found
  pub behind : ℕ

-- with others found before them
abbrev pub with_found : List Found → Searched → Searched
with_found first rest = record { found = first ++ rest.found; behind = rest.behind }

-- the packet that is here, after so many bytes that are left out
unfoldable pub found_here : Form → Bool → ℕ → List ℕ → List Found
found_here form near left bytes =
    if gives form near bytes then record { left_out = left; packet = take 188 (drop (lead form) bytes) } ∷ [] else []

-- how many bytes are left out up to the next place
unfoldable pub left_after : Form → Bool → ℕ → List ℕ → ℕ
left_after form near left bytes = if gives form near bytes then 0 else left + suc (past form near bytes)

-- what is found in bytes of which the first `skip` are past; `near`: a unit ends right before the others; `left`: so
-- many were left out since the last packet
unfoldable pub search_from : Form → ℕ → Bool → ℕ → List ℕ → Searched
search_from form skip near left [] = record { found = []; behind = left }
search_from form (suc n) near left (byte ∷ bytes) = search_from form n near left bytes
search_from form zero near left (byte ∷ bytes) =
    with_found (found_here form near left (byte ∷ bytes))
    (search_from form (past form near (byte ∷ bytes)) (stays form near (byte ∷ bytes)) (left_after form near left (byte ∷ bytes)) bytes)

-- what is found in all bytes of a file
unfoldable pub search : Form → List ℕ → Searched
search form bytes = search_from form 0 true 0 bytes

-- the packets of those that are found
abbrev pub packets_in : List Found → List (List ℕ)
packets_in found = map (λ (each : Found). each.packet) found

-- so many packets at the pitch of units, the first one after so many bytes that are left out, the others after none
unfoldable pub units_at : Form → ℕ → ℕ → List ℕ → List Found
units_at form left zero bytes = []
units_at form left (suc n) bytes =
    record { left_out = left; packet = take 188 (drop (lead form) bytes) } ∷ units_at form 0 n (drop (unit form) bytes)
