-- The packets of a generated stream: so many of them, one more, and all of them in two parts.
use Rattle.std.proofs.Common.{◌≡◌, ℕ, zero, suc, ◌+◌, ◌-◌, ◌≤◌, List, [], ◌∷◌, ◌++◌, length, refl, ap, sym, ◌∙◌, arith}
use Rattle.ts_testgen.specs.Generated.{generated}
use Rattle.stage_run.specs.GeneratedInput.{generated_from}

pub length-generated : (seed at n : ℕ) → length (generated_from seed at n) ≡ n
length-generated seed at zero = refl
length-generated seed at (suc n) = ap suc (length-generated seed (at + 1) n)

pub generated-append : (seed at n more : ℕ)
    → generated_from seed at (n + more) ≡ generated_from seed at n ++ generated_from seed (at + n) more
generated-append seed at zero more =
    let none : 0 + more ≡ more = omega arith in
    let here : at ≡ at + 0 = omega arith in
    ap (λ (k : ℕ). generated_from seed at k) none ∙ ap (λ (k : ℕ). generated_from seed k more) here
generated-append seed at (suc n) more =
    let count : suc n + more ≡ suc (n + more) = omega arith in
    let behind : at + 1 + n ≡ at + suc n = omega arith in
    ap (λ (k : ℕ). generated_from seed at k) count
    ∙ ap (λ (l : List (List ℕ)). generated seed at ∷ l) (generated-append seed (at + 1) n more)
    ∙ ap (λ (k : ℕ). generated seed at ∷ (generated_from seed (at + 1) n ++ generated_from seed k more)) behind

-- one packet more
pub generated-push : (seed n : ℕ) → generated_from seed 0 n ++ generated seed n ∷ [] ≡ generated_from seed 0 (n + 1)
generated-push seed n =
    let behind : n ≡ 0 + n = omega arith in
    ap (λ (k : ℕ). generated_from seed 0 n ++ generated_from seed k 1) behind ∙ sym (generated-append seed 0 n 1)

-- the packets that were put, and those after them
pub generated-split : (seed count all : ℕ) → count ≤ all
    → generated_from seed 0 all ≡ generated_from seed 0 count ++ generated_from seed count (all - count)
generated-split seed count all within =
    let parts : all ≡ count + (all - count) = omega arith in
    let behind : 0 + count ≡ count = omega arith in
    ap (λ (k : ℕ). generated_from seed 0 k) parts
    ∙ generated-append seed 0 count (all - count)
    ∙ ap (λ (k : ℕ). generated_from seed 0 count ++ generated_from seed k (all - count)) behind
