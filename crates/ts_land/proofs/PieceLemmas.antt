-- Lemmas on places in a block, and on which window has the first value.
use Rattle.std.proofs.Common.{inl, inr, ◌≡◌, ◌⊎◌, ℕ, zero, suc, ◌+◌, ◌*◌, ◌<◌, true, false, Option, None, Some, is_some, refl, sym, ap, ◌∙◌, subst, arith}
use Rattle.std.proofs.lemmas.Bool.Decides.{nat_tests}
use Rattle.std.specs.Option.{option_or}
use Rattle.std.proofs.Math.Nat.{add-mul}
use denote.RawPtr.{Ptr, block_ptr, null_ptr, ◌+ₚ◌}
use Rattle.ts_land.specs.Ownership.{Extent}
use Rattle.ts_land.specs.Pieces.{has_first, IsOwnerOf}

further : (p : Ptr) (m n : ℕ) → p +ₚ (m + n) ≡ (p +ₚ m) +ₚ n
further (block_ptr b o) m n = let e : o + (m + n) ≡ (o + m) + n = omega arith in ap (block_ptr b) e
further null_ptr m n = refl

-- the piece after one of `n` values begins where that one ends
pub beside : (base : Ptr) (start n size : ℕ) → base +ₚ (start + n) * size ≡ (base +ₚ start * size) +ₚ n * size
beside base start n size = ap (λ k. base +ₚ k) (add-mul start n size) ∙ further base (start * size) (n * size)

has_one : (n : ℕ) → has_first 0 (suc n) ≡ true
has_one n = let p : 0 < suc n = omega arith in grind (arith, nat_tests, p)

not_one : (s n : ℕ) → has_first (suc s) n ≡ false
not_one s n = let p : 0 < suc s = omega arith in grind (arith, nat_tests, p)

-- of two adjacent pieces at most one has the first value, and both together have it if one has
pub first_of_two : (start n m next total : ℕ) (one another : Option Extent) → next ≡ start + n → total ≡ n + m → is_some one ≡ has_first start n
    → is_some another ≡ has_first next m
    → (one ≡ None ⊎ another ≡ None) × (is_some (option_or one another) ≡ has_first start total)
first_of_two zero zero m next total None another p q a b =
    let p' : next ≡ 0 = omega (arith, p) in let q' : m ≡ total = omega (arith, q) in
    (inl refl, subst (λ t. is_some another ≡ has_first 0 t) q' (subst (λ k. is_some another ≡ has_first k m) p' b))
first_of_two zero zero m next total (Some e) another p q a b = absurd (let bad : true ≡ false = a in cc)
first_of_two zero (suc n) m next total None another p q a b = absurd (let bad : false ≡ true = a ∙ has_one n in cc)
first_of_two zero (suc n) m next total (Some e) None p q a b = let q' : suc (n + m) ≡ total = omega (arith, q) in
    (inr refl, subst (λ t. true ≡ has_first 0 t) q' (sym (has_one (n + m))))
first_of_two zero (suc n) m next total (Some e) (Some f) p q a b = let p' : next ≡ suc n = omega (arith, p) in
    absurd (let bad : true ≡ false = subst (λ k. true ≡ has_first k m) p' b ∙ not_one _ m in cc)
first_of_two (suc s) n m next total None None p q a b = (inl refl, sym (not_one s total))
first_of_two (suc s) n m next total None (Some f) p q a b = let p' : next ≡ suc (s + n) = omega (arith, p) in
    absurd (let bad : true ≡ false = subst (λ k. true ≡ has_first k m) p' b ∙ not_one _ m in cc)
first_of_two (suc s) n m next total (Some e) another p q a b = absurd (let bad : true ≡ false = a ∙ not_one s n in cc)

pub owner_of_either : (base : Ptr) (count : ℕ) (one another : Option Extent) → IsOwnerOf base count one → IsOwnerOf base count another
    → IsOwnerOf base count (option_or one another)
owner_of_either base count None another p q = q
owner_of_either base count (Some e) another p q = p

pub joined_place : (pa pb qa base base' : Ptr) (start start' n m size size' : ℕ) → pa ≡ base +ₚ start * size → pb ≡ base' +ₚ start' * size
    → base' ≡ base → start' ≡ start + n → size' ≡ size → qa ≡ pa → m ≡ n → pb ≡ qa +ₚ m * size'
joined_place pa pb qa base base' start start' n m size size' a b same next told is long =
    b ∙ (λ i. same i +ₚ next i * size) ∙ beside base start n size ∙ (λ i. sym (is ∙ a) i +ₚ sym long i * sym told i)
