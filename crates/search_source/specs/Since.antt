-- Gaps before packets from a number on, where older ones may be gone. This project's own rule.
use Rattle.std.specs.Prelude.{ℕ, ◌≡◌, ◌*◌, ◌≤◌, nat_le, Bool, true, List, [], ◌∷◌, ◌++◌, filter, length, Option, Some}
use Rattle.std.specs.List.{AllByRecursion}
use Rattle.std.specs.Option.{option_map}
use Rattle.packet_forms.specs.declared.forms.Form.{Form}
use Rattle.search_source.specs.declared.gap.Gap.{Gap}
use Rattle.search_source.specs.Coming.{Coming, found_in}

-- the gap is before a packet with this number or a higher one
abbrev pub is_since : ℕ → Gap → Bool
is_since from gap = nat_le from gap.before

-- of what comes besides bytes of packets, where it is known, the gaps before packets from this number on
abbrev pub since : ℕ → Option Coming → Option Coming
since from coming = option_map (λ (c : Coming). record { bytes = []; gaps = filter (is_since from) c.gaps; packets = c.packets; behind = c.behind }) coming

-- how many bytes are left out behind the last packet, where what comes is known
abbrev pub left_behind : Option Coming → Option ℕ
left_behind coming = option_map (λ (c : Coming). c.behind) coming

-- at the end of a search that is over, so many bytes are left out behind the last packet of a file that is known
abbrev pub EndsKnown : Form → Option (List ℕ) → ℕ → Bool → Type 0
EndsKnown form told behind over = (file : List ℕ) → told ≡ Some file → over ≡ true → (found_in form file).behind ≡ behind

-- gaps in the order of the packets behind them, the first before no packet with a lower number than this
abbrev pub Rising : ℕ → List Gap → Type 0
Rising least [] = Unit {0}
Rising least (gap ∷ gaps) = (least ≤ gap.before) × Rising gap.before gaps

-- of the gaps of a file of which these bytes of packets were given, these are noted, where those before packets with a lower
-- number than `from` may be gone; each other one is before a packet of which no byte was given
pub record NotedOf (form : Form) (file given : List ℕ) (from : ℕ) (gaps : List Gap) : Type 0 where
  pub later : List Gap
  pub all_are : filter (is_since from) (found_in form file).gaps ≡ filter (is_since from) (gaps ++ later)
  pub behind : AllByRecursion (λ (gap : Gap). length given ≤ 188 * gap.before) later
  -- there is no other one where all bytes of packets were given
  pub none_left : length (found_in form file).bytes ≤ length given → later ≡ []
  pub rising : Rising 0 (found_in form file).gaps
