-- Where packets that are found stand in the bytes, and when a run of packets is found at once. This project's own rule.
use Rattle.std.specs.Prelude.{ℕ, ◌≡◌, ◌+◌, ◌<◌, true, false, nat_le, List, [], ◌∷◌, length, take, drop}
use Rattle.packet_forms.specs.declared.forms.Form.{Form}
use Rattle.packet_forms.specs.Stripped.{lead, unit}
use Rattle.packet_search.specs.Rule.{is_whole, whole_among}
use Rattle.packet_search.specs.Search.{Found}

-- each of these is the packet of a whole unit of the bytes, which begins so many bytes behind the unit before it as are
-- left out; behind the last unit so many bytes are left out
abbrev pub StandIn : Form → List Found → ℕ → List ℕ → Type 0
StandIn form [] behind bytes = length bytes ≡ behind
StandIn form (each ∷ found) behind bytes =
    (is_whole form (drop each.left_out bytes) ≡ true)
    × (each.packet ≡ take 188 (drop (lead form) (drop each.left_out bytes)))
    × StandIn form found behind (drop (each.left_out + unit form) bytes)

-- from no other byte of the first unit on are two of four units whole
abbrev pub IsAlone : Form → List ℕ → Type 0
IsAlone form run = (o : ℕ) → 0 < o → o < unit form → nat_le 2 (whole_among form 4 (drop o run)) ≡ false
