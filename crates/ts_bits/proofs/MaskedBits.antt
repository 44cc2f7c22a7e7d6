-- The bits of a row as the code takes them.
use Rattle.std.proofs.Common.{◌≡◌, ℕ, ◌+◌, ◌-◌, ◌*◌, ◌/◌, ◌%◌, ◌^◌, ◌≤◌, List, length, take, drop, ap, ◌∙◌, arith}
use Rattle.std.proofs.lemmas.List.{length-drop, length-take-le}
use Rattle.std.specs.Prelude.{bit_and}
use Rattle.std.proofs.lemmas.Nat.{and_mask, one_shl}
use Rattle.ts_bit_rows.specs.BitRow.{field}
use Rattle.ts_bit_rows.proofs.RowParts.{field-in_bytes}

-- the field that the code takes from a few bytes by a shift and a mask
pub field-masked : (row : List ℕ) (at count size wide : ℕ) → wide ≡ field (take (at / 8 + size - at / 8) (drop (at / 8) row)) 0 (8 * length (take (at / 8 + size - at / 8) (drop (at / 8) row))) → at / 8 + size ≤ length row → at % 8 + count ≤ 8 * size → count ≤ 64 → bit_and (wide / 2 ^ (8 * size - at % 8 - count)) (1 * 2 ^ count % 2 ^ 128 - 1) ≡ field row at count
field-masked row at count size wide same there fits few =
    let width : at / 8 + size - at / 8 ≡ size = omega arith in
    let enough : size ≤ length (drop (at / 8) row) = omega (arith, length-drop (at / 8) row) in
    let whole : length (take size (drop (at / 8) row)) ≡ size = length-take-le size (drop (at / 8) row) enough in
    let read : wide ≡ field (take size (drop (at / 8) row)) 0 (8 * size) =
    same ∙ ap (λ n. field (take n (drop (at / 8) row)) 0 (8 * length (take n (drop (at / 8) row)))) width
    ∙ ap (λ n. field (take size (drop (at / 8) row)) 0 (8 * n)) whole in
    ap (λ n. bit_and (wide / 2 ^ (8 * size - at % 8 - count)) (n - 1)) (one_shl count 128 (omega arith))
    ∙ and_mask (wide / 2 ^ (8 * size - at % 8 - count)) count
    ∙ ap (λ n. n / 2 ^ (8 * size - at % 8 - count) % 2 ^ count) read
    ∙ field-in_bytes row at count size fits
