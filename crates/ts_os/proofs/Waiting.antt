-- What waits in a room once the first of it was taken.
use Rattle.std.proofs.Common.{◌≡◌, ℕ, ◌+◌, ◌-◌, ◌≤◌, List, take, drop, sym, ap, ◌∙◌, arith, drop-drop}
use Rattle.std.proofs.lemmas.List.{drop-take}

-- what is in the room after the first so many of those that waited, is what was after these
pub after_taken : (from have count : ℕ) (xs : List ℕ) → count ≤ have
    → take (have - count) (drop (from + count) xs) ≡ drop count (take have (drop from xs))
after_taken from have count xs few =
    let whole : count + (have - count) ≡ have = omega (arith, few) in
    ap (take (have - count)) (sym (drop-drop count from xs))
    ∙ sym (drop-take count (have - count) (drop from xs))
    ∙ ap (λ n. drop count (take n (drop from xs))) whole
