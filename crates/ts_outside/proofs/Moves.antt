-- What a read from memory moves.
use Rattle.std.proofs.Common.{◌≡◌, ℕ, ◌+◌, ◌-◌, ◌≤◌, List, ◌++◌, sym, ◌∙◌, ap, length, take, drop, arith, length-drop}
use Rattle.std.proofs.lemmas.List.{take_all, take_at, drop-drop, take-append-drop}

-- the bytes after `at` are those that were copied to the front of a buffer, and those after them
pub moved-is : (bytes all part into : List ℕ) (at n : ℕ) → all ≡ bytes → part ≡ take n (take (length all - at) (drop at all)) → length part ≡ n → drop at bytes ≡ take n (part ++ drop n into) ++ drop (at + n) bytes
moved-is bytes all part into at n same copied long =
    let behind : length (drop at all) ≤ length all - at = omega (arith, length-drop at all) in
    let whole : take (length all - at) (drop at all) ≡ drop at all = take_all (length all - at) (drop at all) behind in
    let front : part ≡ take n (drop at bytes) = copied ∙ ap (λ (l : List ℕ). take n l) (whole ∙ ap (λ (l : List ℕ). drop at l) same) in
    let kept : take n (part ++ drop n into) ≡ part = take_at part (drop n into) n long in
    sym (ap (λ (l : List ℕ). l ++ drop (at + n) bytes) (kept ∙ front)
    ∙ ap (λ (l : List ℕ). take n (drop at bytes) ++ l) (sym (drop-drop n at bytes))
    ∙ take-append-drop n (drop at bytes))
