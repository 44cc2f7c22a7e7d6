-- The first find, cell by cell.
use Rattle.std.proofs.Common.{◌≡◌, ℕ, zero, suc, ◌+◌, ◌≤◌, ◌<◌, Bool, true, false, not, ◌||◌, List, [], ◌∷◌, ◌++◌, length, take, refl, ap, sym, ◌∙◌, arith, append_assoc, append-nil, length-append, Option, None, Some, inl, inr, subst, true≢false}
use Rattle.std.specs.Prelude.{IfSome, nat_le}
use Rattle.std.proofs.lemmas.List.{take-append-le, take_all}
use Rattle.std.proofs.lemmas.Bool.{cases_Bool, le-leb, lt-leb, leb-true, leb-false}
use Rattle.std.proofs.Math.Bool.{or_assoc}
use Rattle.ts_packet.specs.declared.cell.Cell.{Cell}
use Rattle.ts_packet.specs.Cells.{Live, Dropped}
use Rattle.plugin_trait.specs.Finding.{finds_after, finds_none, first_of, none_below, IsFirstFind}
use Rattle.plugin_trait.specs.declared.first_find.FirstFind.{FirstFind}

-- the cells one after the other
finds_after-append : (test : List Cell → List ℕ → ℕ → Bool) (history xs ys : List Cell)
    → finds_after test history (xs ++ ys) ≡ (finds_after test history xs || finds_after test (history ++ xs) ys)
unfolding finds_after
finds_after-append test history [] ys = ap (λ (h : List Cell). finds_after test h ys) (sym (append-nil history))
finds_after-append test history (Live packet labels ∷ xs) ys =
    let after : List Cell = history ++ Live packet labels ∷ [] in
    ap (λ (b : Bool). test history packet labels || b) (finds_after-append test after xs ys)
    ∙ (sym (or_assoc (test history packet labels) (finds_after test after xs) (finds_after test (after ++ xs) ys))
    ∙ ap (λ (h : List Cell). (test history packet labels || finds_after test after xs) || finds_after test h ys) (append_assoc history (Live packet labels ∷ []) xs))
finds_after-append test history (Dropped ∷ xs) ys =
    let after : List Cell = history ++ Dropped ∷ [] in
    finds_after-append test after xs ys
    ∙ ap (λ (h : List Cell). finds_after test after xs || finds_after test h ys) (append_assoc history (Dropped ∷ []) xs)

-- whether something is found at a cell
abbrev finds_at : (List Cell → List ℕ → ℕ → Bool) → List Cell → Cell → Bool
finds_at test history (Live packet labels) = test history packet labels
finds_at test history Dropped = false

or_false : (b : Bool) → (b || false) ≡ b
or_false true = refl
or_false false = refl

finds_after-one : (test : List Cell → List ℕ → ℕ → Bool) (history : List Cell) (cell : Cell) → finds_after test history (cell ∷ []) ≡ finds_at test history cell
unfolding finds_after
finds_after-one test history (Live packet labels) = or_false (test history packet labels)
finds_after-one test history Dropped = refl

-- ---- the kept position

-- cuts that are not beyond the cells of before have the same answer
below-same : (old : Option ℕ) (n : ℕ) (finds : Bool) (cut : ℕ) → cut ≤ n → none_below old cut ≡ none_below (first_of old n finds) cut
below-same None n true cut le = sym (le-leb cut n le)
below-same None n false cut le = refl
below-same (Some first) n finds cut le = refl

-- and the cut after the new cell
below-more : (old : Option ℕ) (n : ℕ) (finds before : Bool) → IfSome old (λ first. first < n) → not before ≡ none_below old n
    → not (before || finds) ≡ none_below (first_of old n finds) (n + 1)
below-more None n true true met e = absurd (true≢false (sym e))
below-more None n true false met e = sym (lt-leb (n + 1) n (omega arith))
below-more None n false true met e = e
below-more None n false false met e = e
below-more (Some first) n finds true met e = sym (lt-leb (n + 1) first (omega (arith, met)))
below-more (Some first) n finds false met e = absurd (true≢false (e ∙ lt-leb n first met))

met-more : (old : Option ℕ) (n : ℕ) (finds : Bool) → IfSome old (λ first. first < n) → IfSome (first_of old n finds) (λ first. first < n + 1)
met-more None n true met = omega arith
met-more None n false met = met
met-more (Some first) n finds met = omega (arith, met)

-- ---- the relation

module _ (test : List Cell → List ℕ → ℕ → Bool) (history : List Cell) (cell : Cell) where
  whole : (b : Bool) → b ≡ finds_at test history cell → (finds_after test [] history || b) ≡ finds_after test [] (history ++ cell ∷ [])
  whole b is =
      ap (λ (f : Bool). finds_after test [] history || f) (is ∙ sym (finds_after-one test history cell))
      ∙ sym (finds_after-append test [] history (cell ∷ []))

  longer : length (history ++ cell ∷ []) ≡ length history + 1
  longer = length-append history (cell ∷ [])

  module _ (old : FirstFind) (stands : IsFirstFind test history old) (finds : Bool) (is : finds ≡ finds_at test history cell) where
    tells-whole : finds_none test (history ++ cell ∷ []) ≡ none_below (first_of old.at (length history) finds) (length history + 1)
    tells-whole =
        let here : finds_none test history ≡ none_below old.at (length history) =
        ap (λ (cells : List Cell). finds_none test cells) (sym (take_all (length history) history (omega arith))) ∙ stands.tells (length history) (omega arith) in
        ap not (sym (whole finds is)) ∙ below-more old.at (length history) finds (finds_after test [] history) stands.met here

    tells-cut : (cut : ℕ) → cut ≤ length (history ++ cell ∷ []) → finds_none test (take cut (history ++ cell ∷ [])) ≡ none_below (first_of old.at (length history) finds) cut
    tells-cut cut le =
        elim (cases_Bool (nat_le cut (length history))) [
          | inl e ↦ (
              let low : cut ≤ length history = leb-true cut (length history) e in
              ap (λ (cells : List Cell). finds_none test cells) (take-append-le cut history (cell ∷ []) low)
              ∙ (stands.tells cut low ∙ below-same old.at (length history) finds cut low)
              )
          | inr e ↦ (
              let high : length history < cut = leb-false cut (length history) e in
              let all : cut ≡ length history + 1 = omega (arith, le, longer) in
              ap (λ (cells : List Cell). finds_none test cells) (take_all cut (history ++ cell ∷ []) (omega (arith, longer)))
              ∙ (tells-whole ∙ ap (none_below (first_of old.at (length history) finds)) (sym all))
              )
        ]

    met-cell : (new : FirstFind) → new.at ≡ first_of old.at (length history) finds → IsFirstFind test (history ++ cell ∷ []) new
    met-cell new e = record {
      met = subst (λ (n : ℕ). IfSome new.at (λ first. first < n)) (sym longer)
          (subst (λ (o : Option ℕ). IfSome o (λ first. first < length history + 1)) (sym e) (met-more old.at (length history) finds stands.met));
      tells = λ cut le. tells-cut cut le ∙ ap (λ (o : Option ℕ). none_below o cut) (sym e);
    }

unchanged : (old : Option ℕ) (n : ℕ) → old ≡ first_of old n false
unchanged None n = refl
unchanged (Some first) n = refl

none-taken : (cut : ℕ) → take {A = Cell} cut [] ≡ []
none-taken zero = refl
none-taken (suc cut) = refl

-- before the first cell
pub find-first : (test : List Cell → List ℕ → ℕ → Bool) (found : FirstFind) → found.at ≡ None → IsFirstFind test [] found
unfolding finds_after
find-first test found e = record {
  met = subst (λ (o : Option ℕ). IfSome o (λ first. first < 0)) (sym e) tt;
  tells = λ cut le. (let none : take {A = Cell} cut [] ≡ [] = none-taken cut in ap (λ (cells : List Cell). finds_none test cells) none ∙ ap (λ (o : Option ℕ). none_below o cut) (sym e));
}

-- at a live cell it was noted whether something was found
pub find-met : (test : List Cell → List ℕ → ℕ → Bool) (history : List Cell) (packet : List ℕ) (labels at : ℕ) (finds : Bool) (old new : FirstFind)
    → IsFirstFind test history old → length history ≡ at → finds ≡ test history packet labels → new.at ≡ first_of old.at at finds
    → IsFirstFind test (history ++ Live packet labels ∷ []) new
find-met test history packet labels at finds old new stands count is e =
    met-cell test history (Live packet labels) old stands finds is new (e ∙ ap (λ (n : ℕ). first_of old.at n finds) (sym count))

-- at a live cell nothing was found, and nothing was noted
pub find-nothing : (test : List Cell → List ℕ → ℕ → Bool) (history : List Cell) (packet : List ℕ) (labels : ℕ) (found : FirstFind)
    → IsFirstFind test history found → test history packet labels ≡ false → IsFirstFind test (history ++ Live packet labels ∷ []) found
find-nothing test history packet labels found stands none =
    met-cell test history (Live packet labels) found stands false (sym none) found (unchanged found.at (length history))

-- a dropped cell is passed over
pub find-dropped : (test : List Cell → List ℕ → ℕ → Bool) (history : List Cell) (found : FirstFind)
    → IsFirstFind test history found → IsFirstFind test (history ++ Dropped ∷ []) found
find-dropped test history found stands =
    met-cell test history Dropped found stands false refl found (unchanged found.at (length history))
