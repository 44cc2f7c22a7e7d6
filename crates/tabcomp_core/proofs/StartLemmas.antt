-- Where sections one after another begin.
use Rattle.std.proofs.Common.{◌≡◌, ℕ, ◌+◌, ◌<◌, ◌≤◌, List, [], ◌∷◌, ◌++◌, length, take, drop, get_or, slice_index, inl, inr, sym, ap, ◌∙◌, arith, append-nil}
use Rattle.std.specs.List.{concat}
use Rattle.std.proofs.lemmas.Bool.{cases_lt}
use Rattle.std.proofs.lemmas.List.{get_or_append_left, get_or_push, length-append, length_push, take-append-drop, take_more}
use Rattle.std.proofs.lemmas.List.Folds.{concat-append}

-- the starts of so many sections and of the next
pub record StartsTo (ss : List (List ℕ)) (n : ℕ) (starts : List ℕ) : Type 0 where
  pub each : (k : ℕ) → k ≤ n → slice_index starts k ≡ length (concat (take k ss))
  pub count : length starts ≡ n + 1

taken_more : (ss : List (List ℕ)) (i : ℕ) (s row : List ℕ) → i < length ss → s ≡ get_or ss i s → row ≡ s
    → length (concat (take (i + 1) ss)) ≡ length (concat (take i ss)) + length row
taken_more ss i s row inside at same =
    let more : concat (take (i + 1) ss) ≡ concat (take i ss) ++ s =
    ap concat (take_more ss i s inside) ∙ concat-append (take i ss) (get_or ss i s ∷ [])
    ∙ ap (λ l. concat (take i ss) ++ l) (append-nil (get_or ss i s) ∙ sym at) in
    omega (arith, ap length more, length-append (concat (take i ss)) s, ap length same)

pub next_start : (ss : List (List ℕ)) (i offset : ℕ) (s row : List ℕ) → i < length ss → s ≡ get_or ss i s → row ≡ s
    → offset ≡ length (concat (take i ss)) → offset + length row ≡ length (concat (take (i + 1) ss))
next_start ss i offset s row inside at same so_far = omega (arith, taken_more ss i s row inside at same, so_far)

-- a front of the bytes is no longer than they are
pub front_within : (ss : List (List ℕ)) (n : ℕ) → length (concat (take n ss)) ≤ length (concat ss)
front_within ss n =
    let whole : concat ss ≡ concat (take n ss) ++ concat (drop n ss) = ap concat (sym (take-append-drop n ss)) ∙ concat-append (take n ss) (drop n ss) in
    omega (arith, ap length whole, length-append (concat (take n ss)) (concat (drop n ss)))

pub starts_more : (ss : List (List ℕ)) (i next : ℕ) (starts new : List ℕ) → StartsTo ss i starts → next ≡ length (concat (take (i + 1) ss))
    → new ≡ starts ++ next ∷ [] → StartsTo ss (i + 1) new
starts_more ss i next starts new so_far told pushed = record {
  each = λ k within.
      elim (cases_lt k (i + 1)) [
        | inl early ↦ ap (λ l. get_or l k 0) pushed ∙ get_or_append_left starts (next ∷ []) 0 k (omega (arith, early, so_far.count)) ∙ so_far.each k (omega (arith, early))
        | inr late ↦
            let at : k ≡ i + 1 = omega (arith, within, late) in
            ap (λ l. get_or l k 0) pushed ∙ get_or_push starts next 0 k (omega (arith, at, so_far.count)) ∙ told ∙ ap (λ n. length (concat (take n ss))) (sym at)
      ];
  count = omega (arith, ap length pushed, length_push starts next, so_far.count);
}

pub first_start : (ss : List (List ℕ)) (starts : List ℕ) → starts ≡ 0 ∷ [] → StartsTo ss 0 starts
first_start ss starts is = record {
  each = λ k within. let at : k ≡ 0 = omega (arith, within) in
      ap (λ l. get_or l k 0) is ∙ ap (λ n. get_or (0 ∷ []) n 0) at ∙ ap (λ n. length (concat (take n ss))) (sym at);
  count = ap length is;
}
