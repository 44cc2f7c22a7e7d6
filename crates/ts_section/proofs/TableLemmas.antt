-- Each entry of the table is the remainder that it stands for.
use Rattle.std.proofs.Common.{◌≡◌, ℕ, ◌+◌, ◌*◌, ◌^◌, ◌<◌, List, [], ◌∷◌, length, get_or, Bool, true, ◌&&◌, eqb, refl, sym, ap, ◌∙◌, arith, suc, zero, add-zero}
use Rattle.std.proofs.lemmas.Bool.{and_parts, eqb-true}
use Rattle.ts_section.specs.Crc.{remainder}
use Rattle.ts_section.specs.declared.crc_table.TheConstants.{CRC_TABLE}

-- whether each entry, from that of `first` on, is right
abbrev are_remainders : List ℕ → ℕ → Bool
are_remainders [] first = true
are_remainders (entry ∷ rest) first = eqb entry (remainder 8 (first * 2 ^ 32)) && are_remainders rest (suc first)

computed : are_remainders CRC_TABLE 0 ≡ true
unfolding remainder
computed = refl

from_test : (entries : List ℕ) (first i : ℕ) → are_remainders entries first ≡ true → i < length entries → get_or entries i 0 ≡ remainder 8 ((first + i) * 2 ^ 32)
from_test [] first i holds inside = absurd (omega arith)
from_test (entry ∷ rest) first zero holds inside =
    let parts : (eqb entry (remainder 8 (first * 2 ^ 32)) ≡ true) × (are_remainders rest (suc first) ≡ true) =
    and_parts (eqb entry (remainder 8 (first * 2 ^ 32))) (are_remainders rest (suc first)) holds in
    eqb-true entry (remainder 8 (first * 2 ^ 32)) parts.0 ∙ ap (λ n. remainder 8 (n * 2 ^ 32)) (sym (add-zero first))
from_test (entry ∷ rest) first (suc i) holds inside =
    let parts : (eqb entry (remainder 8 (first * 2 ^ 32)) ≡ true) × (are_remainders rest (suc first) ≡ true) =
    and_parts (eqb entry (remainder 8 (first * 2 ^ 32))) (are_remainders rest (suc first)) holds in
    from_test rest (suc first) i parts.1 (omega arith) ∙ ap (λ n. remainder 8 (n * 2 ^ 32)) (omega arith)

pub entry-is : (i : ℕ) → i < 256 → get_or CRC_TABLE i 0 ≡ remainder 8 (i * 2 ^ 32)
entry-is i inside = from_test CRC_TABLE 0 i computed inside ∙ ap (λ n. remainder 8 (n * 2 ^ 32)) (omega arith)
