-- The lines of an input and of plugins, round by round, and at once.
use Rattle.std.proofs.Common.{◌≡◌, inl, inr, ℕ, zero, suc, ◌<◌, ◌≤◌, List, [], ◌∷◌, ◌++◌, Bool, true, false, not, ◌&&◌, cond, map, filter, refl, ap, sym, ◌∙◌, arith, append_assoc, append-nil}
use Rattle.std.specs.List.{AllByRecursion}
use Rattle.std.proofs.lemmas.Bool.{cases_lt, le-ltb, lt-ltb, ltb-true, ltb-false}
use Rattle.std.proofs.lemmas.List.{map-append}
use Rattle.std.proofs.lemmas.List.Elements.{filter-append}
use Rattle.ts_packet.specs.declared.cell.Cell.{Cell}
use Rattle.chain_model.specs.PureRun.{Chain}
use Rattle.chain_model.specs.Reports.{NamedRule}
use Rattle.chain_model.specs.Stuffed.{Stuffing}
use Rattle.chain_live.specs.LiveReports.{LiveLine, is_before, lines_at, lines_below, lines_from, lines_to, list_met, told_at}
use Rattle.chain_rounds.specs.Merged.{merged}
use Rattle.chain_rounds.specs.Round.{place}
use Rattle.chain_rounds.specs.Told.{shown}
use Rattle.chain_rounds.specs.declared.told_line.ToldLine.{ToldLine}
use Rattle.chain_tells.specs.InputLines.{AreBefore, AreFrom, lines_with}
use Rattle.chain_tells.specs.Rounds.{IsWithin}
use Rattle.chain_tells.proofs.InputLemmas.{in-parts}
use Rattle.packet_forms.specs.declared.forms.Form.{Form}
use Rattle.search_source.specs.declared.gap.Gap.{Gap}
use Rattle.tsp_top.specs.InputRounds.{gap_rows, is_between}
use Rattle.tsp_top.specs.LeftOut.{is_below, position_of}
use Rattle.tsp_top.specs.Printed.{gap_line}
use Rattle.tsp_top.proofs.GapRounds.{below, filter-none, filter-whole}

-- ---- rows of lines before a position and from one on

pub both-before : (m : ℕ) (xs ys : List LiveLine) → AreBefore m xs → AreBefore m ys → AreBefore m (xs ++ ys)
both-before m [] ys a b = b
both-before m (x ∷ xs) ys a b = (a.0, both-before m xs ys a.1 b)

pub both-from : (m : ℕ) (xs ys : List LiveLine) → AreFrom m xs → AreFrom m ys → AreFrom m (xs ++ ys)
both-from m [] ys a b = b
both-from m (x ∷ xs) ys a b = (a.0, both-from m xs ys a.1 b)

pub before-more : (m n : ℕ) (xs : List LiveLine) → m ≤ n → AreBefore m xs → AreBefore n xs
before-more m n [] few all = tt
before-more m n (x ∷ xs) few all = (omega (arith, all.0), before-more m n xs few all.1)

pub from-less : (m n : ℕ) (xs : List LiveLine) → m ≤ n → AreFrom n xs → AreFrom m xs
from-less m n [] few all = tt
from-less m n (x ∷ xs) few all = (omega (arith, all.0), from-less m n xs few all.1)

all-before : (m : ℕ) (xs : List LiveLine) → AreBefore m xs → AllByRecursion (λ (x : LiveLine). is_before m x ≡ true) xs
all-before m [] all = tt
all-before m (x ∷ xs) all = (lt-ltb x.at m all.0, all-before m xs all.1)

none-before : (m : ℕ) (xs : List LiveLine) → AreFrom m xs → AllByRecursion (λ (x : LiveLine). is_before m x ≡ false) xs
none-before m [] all = tt
none-before m (x ∷ xs) all = (le-ltb x.at m all.0, none-before m xs all.1)

-- what is before a position of a row that is cut there
pub cut-there : (m : ℕ) (xs ys : List LiveLine) → AreBefore m xs → AreFrom m ys → filter (is_before m) (xs ++ ys) ≡ xs
cut-there m xs ys a b =
    filter-append (is_before m) xs ys
    ∙ ap (λ (l : List LiveLine). l ++ filter (is_before m) ys) (filter-whole (is_before m) xs (all-before m xs a))
    ∙ ap (λ (l : List LiveLine). xs ++ l) (filter-none (is_before m) ys (none-before m ys b))
    ∙ append-nil xs

-- ---- the lines of plugins

pub shown-before : (name_of : ℕ → List ℕ) (from to : ℕ) (lines : List ToldLine) → AllByRecursion (IsWithin from to) lines → AreBefore to (map (shown name_of) lines)
shown-before name_of from to [] all = tt
shown-before name_of from to (line ∷ lines) all = (all.0.1, shown-before name_of from to lines all.1)

pub shown-from : (name_of : ℕ → List ℕ) (from to : ℕ) (lines : List ToldLine) → AllByRecursion (IsWithin from to) lines → AreFrom from (map (shown name_of) lines)
shown-from name_of from to [] all = tt
shown-from name_of from to (line ∷ lines) all = (all.0.0, shown-from name_of from to lines all.1)

-- ---- the lines of a chain

at-one : (m p j : ℕ) (name : List ℕ) (texts : List (List ℕ)) → m ≤ p → AreFrom m (told_at p j name texts)
at-one m p j name [] le = tt
at-one m p j name (text ∷ texts) le = (le, at-one m p j name texts le)

at-once : (m p j : ℕ) (name : List ℕ) (texts : List (List ℕ)) → p < m → AreBefore m (told_at p j name texts)
at-once m p j name [] lt = tt
at-once m p j name (text ∷ texts) lt = (lt, at-once m p j name texts lt)

position-from : (met : ℕ → List Cell) (m p j : ℕ) (plugins : List NamedRule) → m ≤ p → AreFrom m (lines_from met p j plugins)
position-from met m p j [] le = tt
position-from met m p j (plugin ∷ rest) le =
    both-from m (told_at p j plugin.name (lines_at plugin.rule (met j) p)) (lines_from met p (suc j) rest)
    (at-one m p j plugin.name (lines_at plugin.rule (met j) p) le) (position-from met m p (suc j) rest le)

position-before : (met : ℕ → List Cell) (m p j : ℕ) (plugins : List NamedRule) → p < m → AreBefore m (lines_from met p j plugins)
position-before met m p j [] lt = tt
position-before met m p j (plugin ∷ rest) lt =
    both-before m (told_at p j plugin.name (lines_at plugin.rule (met j) p)) (lines_from met p (suc j) rest)
    (at-once m p j plugin.name (lines_at plugin.rule (met j) p) lt) (position-before met m p (suc j) rest lt)

to-before : (met : ℕ → List Cell) (plugins : List NamedRule) (m : ℕ) → AreBefore m (lines_to met plugins m)
to-before met plugins zero = tt
to-before met plugins (suc p) =
    both-before (suc p) (lines_to met plugins p) (lines_from met p 0 plugins)
    (before-more p (suc p) (lines_to met plugins p) (omega arith) (to-before met plugins p)) (position-before met (suc p) p 0 plugins (omega arith))

-- the lines of more positions come behind those of fewer
record Grown (met : ℕ → List Cell) (plugins : List NamedRule) (n m : ℕ) : Type 0 where
  more : List LiveLine
  is : lines_to met plugins m ≡ lines_to met plugins n ++ more
  from : AreFrom n more

grown-none : (met : ℕ → List Cell) (plugins : List NamedRule) (n m : ℕ) → n ≡ m → Grown met plugins n m
grown-none met plugins n m same = record {
  more = [];
  is = sym (append-nil (lines_to met plugins n) ∙ ap (lines_to met plugins) same);
  from = tt;
}

grown : (met : ℕ → List Cell) (plugins : List NamedRule) (n m : ℕ) → n ≤ m → Grown met plugins n m
grown met plugins n zero le = grown-none met plugins n 0 (omega (arith, le))
grown met plugins n (suc m) le =
    elim (cases_lt m n) [
      | inl less ↦ grown-none met plugins n (suc m) (omega (arith, le, less))
      | inr few ↦
          let rest = grown met plugins n m few in
          record {
            more = rest.more ++ lines_from met m 0 plugins;
            is = ap (λ (l : List LiveLine). l ++ lines_from met m 0 plugins) rest.is ∙ append_assoc (lines_to met plugins n) rest.more (lines_from met m 0 plugins);
            from = both-from n rest.more (lines_from met m 0 plugins) rest.from (position-from met n m 0 plugins few);
          }
    ]

-- a row of lines that is cut at a position has there the lines of the chain before it
pub cut-lines : (chain : Chain) (n m : ℕ) (xs ys : List LiveLine) → n ≤ m → xs ++ ys ≡ lines_below chain m → AreBefore n xs → AreFrom n ys → xs ≡ lines_below chain n
cut-lines chain n m xs ys le is a b =
    let more = grown (list_met chain) chain.plugins n m le in
    sym (cut-there n xs ys a b) ∙ ap (filter (is_before n)) (is ∙ more.is)
    ∙ cut-there n (lines_below chain n) more.more (to-before (list_met chain) chain.plugins n) more.from

-- ---- the lines of gaps

module _ (stuffing : Stuffing) (form : Form) where
  pub rows-between : (from to : ℕ) (gaps : List Gap) → AreFrom from (gap_rows stuffing form from to gaps) × AreBefore to (gap_rows stuffing form from to gaps)
  rows-between from to [] = (tt, tt)
  rows-between from to (gap ∷ gaps) = by (rows-between from to gaps) (is_below stuffing to gap.before) (is_below stuffing from gap.before) refl refl
    where
      by : AreFrom from (gap_rows stuffing form from to gaps) × AreBefore to (gap_rows stuffing form from to gaps)
          → (a b : Bool) → is_below stuffing to gap.before ≡ a → is_below stuffing from gap.before ≡ b
          → AreFrom from (map (gap_line stuffing form) (cond (a && not b) (gap ∷ filter (is_between stuffing from to) gaps) (filter (is_between stuffing from to) gaps)))
          × AreBefore to (map (gap_line stuffing form) (cond (a && not b) (gap ∷ filter (is_between stuffing from to) gaps) (filter (is_between stuffing from to) gaps)))
      by rest true true is was = rest
      by rest true false is was = ((ltb-false (position_of stuffing gap.before) from was, rest.0), (ltb-true (position_of stuffing gap.before) to is, rest.1))
      by rest false b is was = rest

  pub lines-before : (m : ℕ) (gaps : List Gap) → AllByRecursion (λ (gap : Gap). is_below stuffing m gap.before ≡ true) gaps → AreBefore m (map (gap_line stuffing form) gaps)
  lines-before m [] all = tt
  lines-before m (gap ∷ gaps) all = (ltb-true (position_of stuffing gap.before) m all.0, lines-before m gaps all.1)

  pub lines-behind : (m : ℕ) (gaps : List Gap) → AllByRecursion (λ (gap : Gap). is_below stuffing m gap.before ≡ false) gaps → AreFrom m (map (gap_line stuffing form) gaps)
  lines-behind m [] all = tt
  lines-behind m (gap ∷ gaps) all = (ltb-false (position_of stuffing gap.before) m all.0, lines-behind m gaps all.1)

  pub filter-before : (m : ℕ) (gaps : List Gap) → filter (is_before m) (map (gap_line stuffing form) gaps) ≡ map (gap_line stuffing form) (filter (below stuffing m) gaps)
  filter-before m [] = refl
  filter-before m (gap ∷ gaps) = by (filter-before m gaps) (is_below stuffing m gap.before)
    where
      by : filter (is_before m) (map (gap_line stuffing form) gaps) ≡ map (gap_line stuffing form) (filter (below stuffing m) gaps)
          → (b : Bool) → cond b (gap_line stuffing form gap ∷ filter (is_before m) (map (gap_line stuffing form) gaps)) (filter (is_before m) (map (gap_line stuffing form) gaps))
          ≡ map (gap_line stuffing form) (cond b (gap ∷ filter (below stuffing m) gaps) (filter (below stuffing m) gaps))
      by rest true = ap (λ (l : List LiveLine). gap_line stuffing form gap ∷ l) rest
      by rest false = rest

  -- the lines before a position of a chain, with these gaps of its input, are the first of those before a later one with more gaps
  pub told-first : (chain : Chain) (n m : ℕ) (gaps later : List Gap) → n ≤ m
      → AllByRecursion (λ (gap : Gap). is_below stuffing n gap.before ≡ true) gaps → AllByRecursion (λ (gap : Gap). is_below stuffing n gap.before ≡ false) later
      → (more : List LiveLine) × (lines_with (map (gap_line stuffing form) (gaps ++ later)) chain m ≡ lines_with (map (gap_line stuffing form) gaps) chain n ++ more)
  told-first chain n m gaps later le first behind =
      let line = gap_line stuffing form in
      let own : List LiveLine = map line gaps in
      let others : List LiveLine = filter (is_before m) (map line later) in
      let whole : filter (is_before n) own ≡ own = filter-whole (is_before n) own (all-before n own (lines-before n gaps first)) in
      let wider : filter (is_before m) own ≡ own = filter-whole (is_before m) own (all-before m own (before-more n m own le (lines-before n gaps first))) in
      let rows : filter (is_before m) (map line (gaps ++ later)) ≡ own ++ others =
      ap (filter (is_before m)) (map-append line gaps later) ∙ filter-append (is_before m) own (map line later) ∙ ap (λ (l : List LiveLine). l ++ others) wider in
      let grows = grown (list_met chain) chain.plugins n m le in (
        merged place others grows.more,
        ap (λ (l : List LiveLine). merged place l (lines_below chain m)) rows
            ∙ ap (merged place (own ++ others)) grows.is
            ∙ in-parts n own (lines_below chain n) others grows.more (lines-before n gaps first) (to-before (list_met chain) chain.plugins n)
            (filtered-from n m (map line later) (lines-behind n later behind)) grows.from
            ∙ ap (λ (l : List LiveLine). merged place l (lines_below chain n) ++ merged place others grows.more) (sym whole),
      )
    where
      filtered-from : (n m : ℕ) (xs : List LiveLine) → AreFrom n xs → AreFrom n (filter (is_before m) xs)
      filtered-from n m [] all = tt
      filtered-from n m (x ∷ xs) all = by (filtered-from n m xs all.1) (is_before m x)
        where
          by : AreFrom n (filter (is_before m) xs) → (b : Bool) → AreFrom n (cond b (x ∷ filter (is_before m) xs) (filter (is_before m) xs))
          by rest true = (all.0, rest)
          by rest false = rest

  -- and all of them where it is the same position
  pub told-all : (chain : Chain) (m : ℕ) (gaps later : List Gap) → AllByRecursion (λ (gap : Gap). is_below stuffing m gap.before ≡ false) later
      → lines_with (map (gap_line stuffing form) (gaps ++ later)) chain m ≡ lines_with (map (gap_line stuffing form) gaps) chain m
  told-all chain m gaps later behind =
      let line = gap_line stuffing form in
      ap (λ (l : List LiveLine). merged place l (lines_below chain m))
      (ap (filter (is_before m)) (map-append line gaps later) ∙ filter-append (is_before m) (map line gaps) (map line later)
      ∙ ap (λ (l : List LiveLine). filter (is_before m) (map line gaps) ++ l) (filter-none (is_before m) (map line later) (none-before m (map line later) (lines-behind m later behind)))
      ∙ append-nil (filter (is_before m) (map line gaps)))
