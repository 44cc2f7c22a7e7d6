-- Lemmas on the item that a full delay line gives up.
use Rattle.std.proofs.Common.{◌≡◌, ℕ, ◌+◌, ◌-◌, ◌≤◌, nat_lt, List, [], ◌∷◌, ◌++◌, length, slice_get, Bool, Option, None, if◌then◌else◌, ap, sym, ◌∙◌, arith, drop, length-append, length-drop, inl, inr}
use Rattle.std.proofs.lemmas.Bool.{cond-true, cond-false, lt-ltb, le-ltb, cases_lt}
use Rattle.std.proofs.lemmas.List.{drop-append-le, drop-drop}
use Rattle.circular_buffer.specs.Buffer.{keep_last}
use Rattle.plug_window.specs.RmorphanRule.{picked}
use Rattle.plug_window.specs.LateState.{leaves}
use Rattle.plug_window.proofs.BlockLemmas.{front_at, within_first}

-- the last items, with one more appended, have the last items of all
pub kept-last : {X : Type 0} (n : ℕ) (rows : List X) (x : X) → keep_last n (keep_last n rows ++ x ∷ []) ≡ keep_last n (rows ++ x ∷ [])
kept-last n rows x =
    let last : length (keep_last n rows) ≡ length rows - (length rows - n) = length-drop (length rows - n) rows in
    let more : length (keep_last n rows ++ x ∷ []) ≡ length (keep_last n rows) + 1 = length-append (keep_last n rows) (x ∷ []) in
    let all : length (rows ++ x ∷ []) ≡ length rows + 1 = length-append rows (x ∷ []) in
    ap (drop (length (keep_last n rows ++ x ∷ []) - n)) (sym (drop-append-le (length rows - n) rows (x ∷ []) (omega arith)))
    ∙ (drop-drop (length (keep_last n rows ++ x ∷ []) - n) (length rows - n) (rows ++ x ∷ [])
    ∙ ap (λ (k : ℕ). drop k (rows ++ x ∷ [])) (omega arith))

module _ {X : Type 0} (test : X → Bool) (n : ℕ) (rows : List X) (x : X) where
  -- it is the one that came `n` items before; a line that is not full gives up none
  pub given-up : (items : List X) (late : Option X) → 1 ≤ n → items ≡ keep_last n rows → late ≡ leaves n items x
      → picked test late ≡ (if nat_lt (length rows) n then None else picked test (slice_get (rows ++ x ∷ []) (length rows - n)))
  given-up items late some is gives =
      let count : length items ≡ length rows - (length rows - n) = ap length is ∙ length-drop (length rows - n) rows in
      elim (cases_lt (length rows) n) [
        | inl few ↦ ap (picked test) (gives ∙ cond-true (nat_lt (length items) n) None (slice_get (items ++ x ∷ []) 0) (lt-ltb (length items) n (omega arith)))
            ∙ sym (cond-true (nat_lt (length rows) n) None (picked test (slice_get (rows ++ x ∷ []) (length rows - n))) (lt-ltb (length rows) n few))
        | inr many ↦ ap (picked test) (gives ∙ (cond-false (nat_lt (length items) n) None (slice_get (items ++ x ∷ []) 0) (le-ltb (length items) n (omega arith))
            ∙ (ap (λ (row : List X). slice_get (row ++ x ∷ []) 0) is ∙ (front_at rows (x ∷ []) (length rows - n) (omega arith) ∙ sym (within_first rows (x ∷ []) (length rows - n) (omega arith))))))
            ∙ sym (cond-false (nat_lt (length rows) n) None (picked test (slice_get (rows ++ x ∷ []) (length rows - n))) (le-ltb (length rows) n many))
      ]
