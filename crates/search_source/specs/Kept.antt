-- Gaps that are kept as the packets behind them are given. This project's own rule.
use Rattle.std.specs.Prelude.{ℕ, ◌≡◌, ◌*◌, ◌≤◌, Bool, true, false, List, [], ◌++◌, length, Option}
use Rattle.std.specs.List.{AllByRecursion}
use Rattle.std.specs.Option.{option_map}
use Rattle.ts_outside.specs.Source.{SourceView}
use Rattle.ts_outside.specs.Told.{told_length}
use Rattle.packet_forms.specs.declared.forms.Form.{Form}
use Rattle.search_source.specs.declared.gap.Gap.{Gap}
use Rattle.search_source.specs.Gaps.{counted}
use Rattle.search_source.specs.Coming.{Coming, ungiven, found_in, coming_from}
use Rattle.search_source.specs.SearchView.{SearchView, FoundThrough}

-- what comes besides bytes of packets, where it is known
abbrev pub beside : Option Coming → Option Coming
beside coming = option_map (λ (c : Coming). record { bytes = []; gaps = c.gaps; packets = c.packets; behind = c.behind }) coming

-- of all bytes of a file
abbrev pub all_beside : Form → Option (List ℕ) → Option Coming
all_beside form file = beside (option_map (found_in form) file)

-- with these gaps first
abbrev pub with_gaps : List Gap → Option Coming → Option Coming
with_gaps gaps coming = option_map (ungiven [] gaps) coming

-- the source of packets and the file's own stand to each other as `FoundThrough` says; and where none was lost, the gaps
-- that were kept, and then those before the packets that were not begun, are all gaps of the file
pub record KeptThrough (outer : SearchView) (inner : SourceView) (lost : Bool) (gaps : List Gap) : Type 0 where
  pub through : FoundThrough outer inner
  pub kept : lost ≡ false → all_beside through.form outer.origin.bytes
      ≡ with_gaps gaps (beside (option_map (λ rest. coming_from through.form through.due through.tail through.near through.left through.number (through.hand ++ rest)) inner.left))

-- the same, and how far the search came: so many packets were begun, so many bytes were left out behind the last one, and
-- where it is over, no byte is in hand or to come
pub record KeptTo (outer : SearchView) (inner : SourceView) (lost : Bool) (gaps : List Gap) (number behind : ℕ) (over : Bool) : Type 0 where
  pub kept : KeptThrough outer inner lost gaps
  pub number_is : kept.through.number ≡ number
  pub behind_is : counted kept.through.left ≡ behind
  pub over_is : over ≡ true → (kept.through.hand ≡ []) × (told_length inner.left ≡ 0)

-- of the gaps of a file these were kept; each other one is before a packet that was not among the first of this number;
-- and where the search is over, there is no other one, and so many bytes are left out behind the last packet
pub record GapsTo (form : Form) (file : List ℕ) (gaps : List Gap) (number behind : ℕ) (over : Bool) : Type 0 where
  pub later : List Gap
  pub all_are : (found_in form file).gaps ≡ gaps ++ later
  pub not_begun : AllByRecursion (λ (gap : Gap). number ≤ gap.before) later
  pub over_is : over ≡ true → (later ≡ []) × ((found_in form file).behind ≡ behind)

-- of the gaps of a file of which these bytes of packets were given, these were kept; each other one is before a packet
-- of which no byte was given
pub record KeptOf (form : Form) (file given : List ℕ) (gaps : List Gap) : Type 0 where
  pub later : List Gap
  pub all_are : (found_in form file).gaps ≡ gaps ++ later
  pub behind : AllByRecursion (λ (gap : Gap). length given ≤ 188 * gap.before) later
