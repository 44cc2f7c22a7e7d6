-- The next line of several rows.
use Rattle.std.proofs.Common.{◌≡◌, ℕ, zero, suc, ◌+◌, ◌<◌, ◌≤◌, List, [], ◌∷◌, length, map, drop, Option, Some, None, Bool, true, false, not, nat_lt, if◌then◌else◌, refl, ap, sym, ◌∙◌, arith}
use Rattle.std.specs.Prelude.{IfSome, IfNone, is_some, slice_index_or, slice_set}
use Rattle.std.proofs.Common.{Bor}
use Rattle.std.specs.Slice.{IsItemAt}
use Rattle.std.proofs.Math.Seq.{drop-cons}
use Rattle.std.proofs.lemmas.Option.{IfSome_then}
use Rattle.std.proofs.lemmas.List.{length-set, get_or-set_other, drop-set}
use Rattle.plugin_trait.specs.declared.line.Line.{Line}
use Rattle.chain_rounds.specs.Merged.{into, merged, first_is_next}
use Rattle.chain_rounds.specs.Told.{told_by, place_of}
use Rattle.chain_rounds.specs.declared.told_line.ToldLine.{ToldLine}
use Rattle.chain_tells.specs.declared.line_row.LineRow.{LineRow}
use Rattle.chain_tells.specs.declared.waiting_lines.NextRow.{NextRow}
use Rattle.chain_tells.specs.Waiting.{told_rows, IsNextRow, comes_first_of}

-- rows from one on: its lines, and those of the rows after it
pub open-row : (rows : List LineRow) (j : ℕ) (row : LineRow) → j < length rows → row ≡ slice_index_or rows j row
    → told_rows j (drop j rows) ≡ merged place_of (map (told_by (suc j)) row.lines.items) (told_rows (suc j) (drop (suc j) rows))
open-row rows j row lt is =
    ap (told_rows j) (drop-cons rows j row lt)
    ∙ ap (λ (r : LineRow). merged place_of (map (told_by (suc j)) r.lines.items) (told_rows (suc j) (drop (suc j) rows))) (sym is)

-- the same where the row was changed
pub set-row : (rows : List LineRow) (j : ℕ) (row : LineRow) → j < length rows
    → told_rows j (drop j (slice_set rows j row)) ≡ merged place_of (map (told_by (suc j)) row.lines.items) (told_rows (suc j) (drop (suc j) rows))
set-row rows j row lt =
    let next : j + 1 ≡ suc j = omega arith in
    ap (told_rows j) (drop-set rows j row lt)
    ∙ ap (λ (n : ℕ). merged place_of (map (told_by (suc j)) row.lines.items) (told_rows (suc j) (drop n rows))) next

-- past the last row
pub past-rows : (rows : List LineRow) (j : ℕ) → length rows ≤ j → told_rows j (drop j rows) ≡ []
past-rows [] zero le = refl
past-rows [] (suc j) le = refl
past-rows (row ∷ rows) zero le = absurd (omega arith)
past-rows (row ∷ rows) (suc j) le = past-more rows (suc j) j (omega arith)
  where
    past-more : (rows : List LineRow) (n j : ℕ) → length rows ≤ j → told_rows n (drop j rows) ≡ []
    past-more [] n zero le = refl
    past-more [] n (suc j) le = refl
    past-more (row ∷ rows) n zero le = absurd (omega arith)
    past-more (row ∷ rows) n (suc j) le = past-more rows n j (omega arith)

-- of two rows the first one's member is next, or the other's
own-next : (x : ToldLine) (xs ys : List ToldLine) → first_is_next place_of (x ∷ xs) ys ≡ true → merged place_of (x ∷ xs) ys ≡ x ∷ merged place_of xs ys
own-next x [] [] is = refl
own-next x (z ∷ zs) [] is = refl
own-next x xs (y ∷ ys) is =
    ap (λ (t : Bool). if t then y ∷ into place_of x (merged place_of xs) ys else x ∷ merged place_of xs (y ∷ ys)) (not-true (nat_lt (place_of y) (place_of x)) is)
  where
    not-true : (t : Bool) → not t ≡ true → t ≡ false
    not-true true is = absurd cc
    not-true false is = refl

other-next : (x y : ToldLine) (xs ys : List ToldLine) → nat_lt (place_of y) (place_of x) ≡ true → merged place_of (x ∷ xs) (y ∷ ys) ≡ y ∷ merged place_of (x ∷ xs) ys
other-next x y xs ys is = ap (λ (t : Bool). if t then y ∷ into place_of x (merged place_of xs) ys else x ∷ merged place_of xs (y ∷ ys)) is

not-false : (t : Bool) → not t ≡ false → t ≡ true
not-false true is = refl
not-false false is = absurd cc

same-place : (rows : List LineRow) (j : ℕ) (d row : LineRow) → j < length rows → slice_index_or rows j d ≡ slice_index_or rows j row
same-place [] j d row lt = absurd (omega arith)
same-place (first ∷ rows) zero d row lt = refl
same-place (first ∷ rows) (suc j) d row lt = same-place rows j d row (omega arith)

module _ (rows : List LineRow) (j : ℕ) (lt : j < length rows) (row : LineRow) (is : row ≡ slice_index_or rows j row) (later : Option NextRow)
    (some : IfSome later (λ next. IsNextRow rows (suc j) next.row next.at)) (none : IfNone later (told_rows (suc j) (drop (suc j) rows) ≡ [])) where
  -- this row stands where a later one was changed
  unchanged : (i : ℕ) (new : LineRow) → suc j ≤ i
      → told_rows j (drop j (slice_set rows i new)) ≡ merged place_of (map (told_by (suc j)) row.lines.items) (told_rows (suc j) (drop (suc j) (slice_set rows i new)))
  unchanged i new le =
      open-row (slice_set rows i new) j row (omega (arith, length-set rows i new)) (is ∙ sym (get_or-set_other rows i j new row (λ e. absurd (omega arith))))

  -- no line is in this row
  module _ (empty : row.lines.items ≡ []) where
    skip : (rest : List ToldLine) → merged place_of (map (told_by (suc j)) row.lines.items) rest ≡ rest
    skip rest = ap (λ (l : List Line). merged place_of (map (told_by (suc j)) l) rest) empty

    passed : (next : NextRow) → IsNextRow rows (suc j) next.row next.at → IsNextRow rows j next.row next.at
    passed next n = record {
      not_below = let a = n.not_below in omega arith;
      within = n.within;
      line = n.line;
      later = n.later;
      at_is = n.at_is;
      front = n.front;
      rest = n.rest;
      begins = open-row rows j row lt is ∙ (skip (told_rows (suc j) (drop (suc j) rows)) ∙ n.begins);
      left = λ new kept. unchanged next.row new n.not_below ∙ (skip (told_rows (suc j) (drop (suc j) (slice_set rows next.row new))) ∙ n.left new kept);
    }

    pub empty-some : IfSome later (λ next. IsNextRow rows j next.row next.at)
    empty-some = IfSome_then later some passed

    pub empty-none : IfNone later (told_rows j (drop j rows) ≡ [])
    empty-none = by-cases later none
      where
        by-cases : (later : Option NextRow) → IfNone later (told_rows (suc j) (drop (suc j) rows) ≡ []) → IfNone later (told_rows j (drop j rows) ≡ [])
        by-cases None none = open-row rows j row lt is ∙ (skip (told_rows (suc j) (drop (suc j) rows)) ∙ none)
        by-cases (Some next) none = tt

  -- a line is in this row
  module _ (line : Line) (rest : List Line) (items : row.lines.items ≡ line ∷ rest) where
    abbrev after : List ToldLine
    after = told_rows (suc j) (drop (suc j) rows)

    opened : told_rows j (drop j rows) ≡ merged place_of (told_by (suc j) line ∷ map (told_by (suc j)) rest) after
    opened = open-row rows j row lt is ∙ ap (λ (l : List Line). merged place_of (map (told_by (suc j)) l) after) items

    pub own-first : comes_first_of line.at later ≡ true → IsNextRow rows j j line.at
    own-first first = record {
      not_below = omega arith;
      within = lt;
      line = line;
      later = rest;
      at_is = refl;
      front = λ d. ap (λ (r : LineRow). r.lines.items) (same-place rows j d row lt ∙ sym is) ∙ items;
      rest = merged place_of (map (told_by (suc j)) rest) after;
      begins = opened ∙ own-next (told_by (suc j) line) (map (told_by (suc j)) rest) after (is-next later some none first);
      left = λ new kept. set-row rows j new lt ∙ ap (λ (l : List Line). merged place_of (map (told_by (suc j)) l) after) kept;
    }
      where
        is-next : (later : Option NextRow) → IfSome later (λ next. IsNextRow rows (suc j) next.row next.at) → IfNone later (told_rows (suc j) (drop (suc j) rows) ≡ [])
            → comes_first_of line.at later ≡ true → first_is_next place_of (told_by (suc j) line ∷ map (told_by (suc j)) rest) (told_rows (suc j) (drop (suc j) rows)) ≡ true
        is-next None some none first = ap (λ (l : List ToldLine). first_is_next place_of (told_by (suc j) line ∷ map (told_by (suc j)) rest) l) none
        is-next (Some next) some none first =
            ap (λ (l : List ToldLine). first_is_next place_of (told_by (suc j) line ∷ map (told_by (suc j)) rest) l) some.begins
            ∙ (ap (λ (n : ℕ). not (nat_lt n line.at)) (sym some.at_is) ∙ first)

    later-next : (next : NextRow) → IsNextRow rows (suc j) next.row next.at → not (nat_lt next.at line.at) ≡ false → IsNextRow rows j next.row next.at
    later-next next n before = record {
      not_below = let a = n.not_below in omega arith;
      within = n.within;
      line = n.line;
      later = n.later;
      at_is = n.at_is;
      front = n.front;
      rest = merged place_of (told_by (suc j) line ∷ map (told_by (suc j)) rest) n.rest;
      begins = opened
          ∙ (ap (λ (l : List ToldLine). merged place_of (told_by (suc j) line ∷ map (told_by (suc j)) rest) l) n.begins
          ∙ other-next (told_by (suc j) line) (told_by (suc next.row) n.line) (map (told_by (suc j)) rest) n.rest
          (ap (λ (k : ℕ). nat_lt k line.at) (sym n.at_is) ∙ not-false (nat_lt next.at line.at) before));
      left = λ new kept. unchanged next.row new n.not_below
          ∙ (ap (λ (l : List Line). merged place_of (map (told_by (suc j)) l) (told_rows (suc j) (drop (suc j) (slice_set rows next.row new)))) items
          ∙ ap (λ (l : List ToldLine). merged place_of (told_by (suc j) line ∷ map (told_by (suc j)) rest) l) (n.left new kept));
    }

    pub later-some : comes_first_of line.at later ≡ false → IfSome later (λ next. IsNextRow rows j next.row next.at)
    later-some = by-cases later some
      where
        by-cases : (later : Option NextRow) → IfSome later (λ next. IsNextRow rows (suc j) next.row next.at) → comes_first_of line.at later ≡ false
            → IfSome later (λ next. IsNextRow rows j next.row next.at)
        by-cases None some before = tt
        by-cases (Some next) some before = later-next next some before

    pub later-none : (P : Type 0) → comes_first_of line.at later ≡ false → IfNone later P
    later-none P = by-cases later
      where
        by-cases : (later : Option NextRow) → comes_first_of line.at later ≡ false → IfNone later P
        by-cases None before = absurd cc
        by-cases (Some next) before = tt

-- what is known of the first line of a row
pub no-lines : (items : List Line) (front : Option (Bor Line)) → IsItemAt items 0 front → front ≡ None → items ≡ []
no-lines [] front item is = refl
no-lines (x ∷ xs) (Some y) item is = absurd cc
no-lines (x ∷ xs) None item is = absurd (omega (arith, item.3))

abbrev now_or : Option (Bor Line) → Line → Line
now_or (Some line) d = line.now
now_or None d = d

pub some-lines : (items : List Line) (front : Option (Bor Line)) (line : Bor Line) → IsItemAt items 0 front → front ≡ Some line → items ≡ line.now ∷ drop 1 items
some-lines [] None line item is = absurd cc
some-lines [] (Some y) line item is = absurd (omega (arith, item.3.0))
some-lines (x ∷ xs) None line item is = absurd cc
some-lines (x ∷ xs) (Some y) line item is = ap (λ (l : Line). l ∷ xs) (sym item.1 ∙ ap (λ (o : Option (Bor Line)). now_or o x) is)

-- whether there is a next row
pub none-then : (r : Option NextRow) (P : Type 0) (none : Bool) → is_some r ≡ not none → none ≡ true → IfNone r P → P
none-then None P none is yes_ p = p
none-then (Some next) P true is yes_ p = absurd cc
none-then (Some next) P false is yes_ p = absurd cc

pub some-then : (rows : List LineRow) (r : Option NextRow) (none : Bool) → is_some r ≡ not none → none ≡ false → IfSome r (λ next. IsNextRow rows 0 next.row next.at) → 0 < length (told_rows 0 rows)
some-then rows None true is no_ p = absurd cc
some-then rows None false is no_ p = absurd cc
some-then rows (Some next) none is no_ p = let a : length (told_rows 0 rows) ≡ suc (length p.rest) = ap (λ (l : List ToldLine). length l) p.begins in omega arith
