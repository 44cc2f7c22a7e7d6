-- What a finder of packets has still to give: the bytes of packets, the gaps before them, how many packets there are in
-- all, and what is left out behind them. This project's own rule.
use Rattle.std.specs.Prelude.{ℕ, ◌≡◌, ◌+◌, Bool, true, if◌then◌else◌, List, [], ◌++◌, length, take, drop, option_to_list}
use Rattle.std.specs.List.{concat}
use Rattle.packet_forms.specs.declared.forms.Form.{Form}
use Rattle.packet_forms.specs.Stripped.{unit}
use Rattle.packet_search.specs.Rule.{deciding_bytes, in_row}
use Rattle.packet_search.specs.Search.{Searched, search_from, search, packets_in}
use Rattle.search_source.specs.Gaps.{counted, gaps_from}
use Rattle.search_source.specs.declared.gap.Gap.{Gap}
use Rattle.search_source.specs.declared.finder.Finder.{Finder}

-- the bytes of packets still to be given; the gaps before these packets; the number of all packets, given or not; and how
-- many bytes are left out behind the last one
pub record Coming : Type 0 where
  pub bytes : List ℕ
  pub gaps : List Gap
  pub packets : ℕ
  pub behind : ℕ

-- as it was before these bytes were given, and these gaps taken
abbrev pub ungiven : List ℕ → List Gap → Coming → Coming
ungiven bytes gaps rest = record { bytes = bytes ++ rest.bytes; gaps = gaps ++ rest.gaps; packets = rest.packets; behind = rest.behind }

-- what comes of packets that are found, the first of which has this number
abbrev pub coming_of : ℕ → Searched → Coming
coming_of number searched = record {
  bytes = concat (packets_in searched.found);
  gaps = gaps_from number searched.found;
  packets = counted (number + length searched.found);
  behind = counted searched.behind;
}

-- what comes of all bytes of a file
abbrev pub found_in : Form → List ℕ → Coming
found_in form bytes = coming_of 0 (search form bytes)

-- what comes of bytes: first the rest of a packet at the front, and behind its unit what is found there; `left`: so many
-- were left out before
unfoldable pub coming_from : Form → ℕ → ℕ → Bool → ℕ → ℕ → List ℕ → Coming
coming_from form due tail near left number bytes = ungiven (take due bytes) [] (coming_of number (search_from form 0 near left (drop (due + tail) bytes)))

-- the bytes that were read and are not past
abbrev pub hand_of : Finder → List ℕ
hand_of finder = take finder.have (drop finder.from finder.room.items)

-- what comes of those in hand, where these follow; the gap that was noted last comes first
abbrev pub coming : Finder → List ℕ → Coming
coming finder more =
    ungiven [] (option_to_list finder.noted)
    (coming_from finder.form finder.due finder.tail finder.near finder.left finder.number (hand_of finder ++ more))

-- what came of a finder is what comes of another one, behind these bytes and gaps, whatever follows; where no more do,
-- at the end
abbrev pub Gives : Finder → Finder → List ℕ → List Gap → Bool → Type 0
Gives old new bytes gaps ended = (more : List ℕ) → (ended ≡ true → more ≡ []) → coming old more ≡ ungiven bytes gaps (coming new more)

-- how many bytes decide what is found: six units, or one at the end
abbrev pub deciding : Form → Bool → ℕ
deciding form ended = if ended then 1 else deciding_bytes form

-- what is next is in hand at the front: no packet is begun, a unit is its packet alone and ends right before, and nothing was
-- left out since the last packet
pub record IsPlain (finder : Finder) : Type 0 where
  pub none_due : finder.due ≡ 0
  pub no_tail : finder.tail ≡ 0
  pub is_near : finder.near ≡ true
  pub none_left : finder.left ≡ 0
  pub unit_is : unit finder.form ≡ 188

-- so many packets are next, each the first of five whole units in a row, with no byte between them
pub record BeginsRow (finder : Finder) (count : ℕ) : Type 0 where
  pub plain : IsPlain finder
  pub row : in_row finder.form (count + 4) (hand_of finder) ≡ true
