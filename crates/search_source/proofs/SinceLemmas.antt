-- Gaps before packets from a number on: what is kept of them as reads go on, and as old gaps are let go.
use Rattle.std.proofs.Common.{◌≡◌, ℕ, ◌≤◌, ◌<◌, ◌^◌, ◌*◌, Bool, true, false, List, [], ◌∷◌, ◌++◌, Option, None, Some, length, filter, cond, nat_le, refl, ap, sym, ◌∙◌, subst, arith, append_assoc, unwrap_or}
use Rattle.std.specs.Option.{option_map}
use Rattle.std.proofs.Math.Dec.{leb-zero}
use Rattle.std.proofs.lemmas.Bool.{lt-leb, leb-false}
use Rattle.std.proofs.lemmas.List.Elements.{filter-append}
use Rattle.ts_outside.specs.Told.{before}
use Rattle.ts_outside.specs.Source.{SourceView, Origin}
use Rattle.packet_forms.specs.declared.forms.Form.{Form}
use Rattle.packet_forms.specs.Stripped.{unit}
use Rattle.search_source.specs.declared.gap.Gap.{Gap}
use Rattle.search_source.specs.Coming.{Coming, ungiven, found_in, coming_from}
use Rattle.search_source.specs.Kept.{beside, with_gaps}
use Rattle.search_source.specs.Since.{is_since, since, NotedOf}
use Rattle.search_source.proofs.Kept.{behind-from, gaps-rise, none-left}
use Rattle.search_source.proofs.Through.{same-units}

-- of gaps before packets from a number on, those from a later one
later-one : (from more : ℕ) (gap : Gap) (kept all : List Gap) → from ≤ more → filter (is_since more) kept ≡ filter (is_since more) all
    → (b : Bool) → nat_le from gap.before ≡ b → filter (is_since more) (cond b (gap ∷ kept) kept) ≡ filter (is_since more) (gap ∷ all)
later-one from more gap kept all le same true is = ap (λ (l : List Gap). cond (is_since more gap) (gap ∷ l) l) same
later-one from more gap kept all le same false is =
    let few : gap.before < from = leb-false from gap.before is in
    let not_since : is_since more gap ≡ false = lt-leb more gap.before (omega arith) in
    same ∙ sym (ap (λ (c : Bool). cond c (gap ∷ filter (is_since more) all) (filter (is_since more) all)) not_since)

pub later-of : (from more : ℕ) (gaps : List Gap) → from ≤ more → filter (is_since more) (filter (is_since from) gaps) ≡ filter (is_since more) gaps
later-of from more [] le = refl
later-of from more (gap ∷ gaps) le =
    later-one from more gap (filter (is_since from) gaps) gaps le (later-of from more gaps le) (nat_le from gap.before) refl

-- the same of what comes
since-later : (from more : ℕ) (coming : Option Coming) → from ≤ more → since more (since from coming) ≡ since more coming
since-later from more None le = refl
since-later from more (Some c) le =
    ap (λ (g : List Gap). let d : Coming = record { bytes = []; gaps = g; packets = c.packets; behind = c.behind } in Some d) (later-of from more c.gaps le)

none-before : (coming : Option Coming) → with_gaps [] coming ≡ coming
none-before None = refl
none-before (Some c) = refl

-- before the first read
pub since-new : (all coming : Option Coming) → coming ≡ all → since 0 all ≡ since 0 (with_gaps [] coming)
since-new all coming same = ap (since 0) (sym same ∙ sym (none-before coming))

-- bytes were given, and gaps were noted before
noted-then : (from : ℕ) (gaps noted : List Gap) (bytes : List ℕ) (coming : Option Coming)
    → since from (with_gaps gaps (option_map (ungiven bytes noted) coming)) ≡ since from (with_gaps (gaps ++ noted) coming)
noted-then from gaps noted bytes None = refl
noted-then from gaps noted bytes (Some c) =
    ap (λ (g : List Gap). let d : Coming = record { bytes = []; gaps = filter (is_since from) g; packets = c.packets; behind = c.behind } in Some d) (sym (append_assoc gaps noted c.gaps))

pub since-read : (from : ℕ) (gaps noted more : List Gap) (bytes : List ℕ) (all old new : Option Coming) → more ≡ gaps ++ noted
    → since from all ≡ since from (with_gaps gaps old) → old ≡ option_map (ungiven bytes noted) new → since from all ≡ since from (with_gaps more new)
since-read from gaps noted more bytes all old new more_is kept moved =
    kept ∙ ap (λ (o : Option Coming). since from (with_gaps gaps o)) moved ∙ noted-then from gaps noted bytes new
    ∙ ap (λ (g : List Gap). since from (with_gaps g new)) (sym more_is)

-- old ones were let go
same-later : (gaps more : List Gap) (from : ℕ) → more ≡ filter (is_since from) gaps → (coming : Option Coming) → since from (with_gaps gaps coming) ≡ since from (with_gaps more coming)
same-later gaps more from more_is None = refl
same-later gaps more from more_is (Some c) =
    let test : Gap → Bool = is_since from in
    ap (λ (g : List Gap). let d : Coming = record { bytes = []; gaps = g; packets = c.packets; behind = c.behind } in Some d)
    (filter-append test gaps c.gaps
    ∙ ap (λ (l : List Gap). l ++ filter test c.gaps) (sym (later-of from from gaps (omega arith)) ∙ ap (filter test) (sym more_is))
    ∙ sym (filter-append test more c.gaps))

pub since-less : (from now : ℕ) (gaps more : List Gap) (all coming : Option Coming) → from ≤ now → more ≡ filter (is_since now) gaps
    → since from all ≡ since from (with_gaps gaps coming) → since now all ≡ since now (with_gaps more coming)
since-less from now gaps more all coming le more_is kept =
    sym (since-later from now all le) ∙ ap (since now) kept ∙ since-later from now (with_gaps gaps coming) le ∙ same-later gaps more now more_is coming

-- where none was let go, all are kept
all-since : (gaps : List Gap) → filter (is_since 0) gaps ≡ gaps
all-since [] = refl
all-since (gap ∷ gaps) =
    ap (λ (b : Bool). cond b (gap ∷ filter (is_since 0) gaps) (filter (is_since 0) gaps)) (leb-zero gap.before)
    ∙ ap (λ (l : List Gap). gap ∷ l) (all-since gaps)

since-none : (coming : Option Coming) → since 0 coming ≡ beside coming
since-none None = refl
since-none (Some c) = ap (λ (g : List Gap). let d : Coming = record { bytes = []; gaps = g; packets = c.packets; behind = c.behind } in Some d) (all-since c.gaps)

beside-with : (gaps : List Gap) (coming : Option Coming) → beside (with_gaps gaps coming) ≡ with_gaps gaps (beside coming)
beside-with gaps None = refl
beside-with gaps (Some c) = refl

pub all-kept : (from : ℕ) (gaps : List Gap) (all coming : Option Coming) → from ≡ 0 → since from all ≡ since from (with_gaps gaps coming) → beside all ≡ with_gaps gaps (beside coming)
all-kept from gaps all coming none kept =
    let zero_kept : since 0 all ≡ since 0 (with_gaps gaps coming) = subst (λ (n : ℕ). since n all ≡ since n (with_gaps gaps coming)) none kept in
    sym (since-none all) ∙ zero_kept ∙ since-none (with_gaps gaps coming) ∙ beside-with gaps coming

-- ---- of a file that is told

noted-told : (form : Form) (due tail : ℕ) (near : Bool) (left number : ℕ) (noted : List Gap) (hand file given : List ℕ) (from : ℕ) (gaps : List Gap) (inner : Option (List ℕ)) → length file < 2 ^ 63
    → Some (found_in form file).bytes
    ≡ before given (option_map (λ (c : Coming). c.bytes) (option_map (λ rest. ungiven [] noted (coming_from form due tail near left number (hand ++ rest))) inner))
    → since from (Some (found_in form file)) ≡ since from (with_gaps gaps (option_map (λ rest. ungiven [] noted (coming_from form due tail near left number (hand ++ rest))) inner))
    → NotedOf form file given from (gaps ++ noted)
noted-told form due tail near left number noted hand file given from gaps None small bytes_are kept = absurd cc
noted-told form due tail near left number noted hand file given from gaps (Some rest) small bytes_are kept =
    let none : Coming = record { bytes = []; gaps = []; packets = 0; behind = 0 } in
    let here : Coming = coming_from form due tail near left number (hand ++ rest) in
    record {
      later = here.gaps;
      all_are = ap (λ (o : Option Coming). (unwrap_or o none).gaps) kept
          ∙ ap (filter (is_since from)) (sym (append_assoc gaps noted here.gaps));
      behind = behind-from form due tail near left number (hand ++ rest) file given small
          (ap (λ (o : Option (List ℕ)). unwrap_or o []) bytes_are)
          (ap (λ (o : Option Coming). (unwrap_or o none).packets) kept);
      none_left = none-left form due tail near left number (hand ++ rest) file given (ap (λ (o : Option (List ℕ)). unwrap_or o []) bytes_are);
      rising = gaps-rise form file;
    }

pub noted-of : (form own : Form) (due tail : ℕ) (near : Bool) (left number : ℕ) (noted : List Gap) (hand file given : List ℕ) (from : ℕ) (gaps : List Gap) (old : SourceView) (first : Option (List ℕ)) (inner : Option (List ℕ))
    → old.left ≡ Some (found_in form file).bytes → old.origin ≡ record { unit = 6 * unit form; bytes = Some file }
    → old.left ≡ before given (option_map (λ (c : Coming). c.bytes) (option_map (λ rest. ungiven [] noted (coming_from own due tail near left number (hand ++ rest))) inner))
    → old.origin ≡ record { unit = 6 * unit own; bytes = first } → length file < 2 ^ 63
    → since from (option_map (found_in own) first) ≡ since from (with_gaps gaps (option_map (λ rest. ungiven [] noted (coming_from own due tail near left number (hand ++ rest))) inner))
    → NotedOf form file given from (gaps ++ noted)
noted-of form own due tail near left number noted hand file given from gaps old first inner left_is origin_is moved same small kept =
    let units : 6 * unit form ≡ 6 * unit own = sym (ap (λ (o : Origin). o.unit) origin_is) ∙ ap (λ (o : Origin). o.unit) same in
    let told : first ≡ Some file = sym (ap (λ (o : Origin). o.bytes) same) ∙ ap (λ (o : Origin). o.bytes) origin_is in
    let form_is : own ≡ form = sym (same-units form own units) in
    let next : Form → Option Coming = λ f. option_map (λ rest. ungiven [] noted (coming_from f due tail near left number (hand ++ rest))) inner in
    noted-told form due tail near left number noted hand file given from gaps inner small
    (sym left_is ∙ moved ∙ ap (λ (f : Form). before given (option_map (λ (c : Coming). c.bytes) (next f))) form_is)
    (subst (λ (f : Form). since from (option_map (found_in f) (Some file)) ≡ since from (with_gaps gaps (next f))) form_is
    (ap (λ (o : Option (List ℕ)). since from (option_map (found_in own) o)) (sym told) ∙ kept))
