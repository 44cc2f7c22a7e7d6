-- A byte with some of its bits replaced, and the field that the row then has.
use Rattle.std.specs.Int.Bits.{bit_and, bit_or}
use Rattle.std.proofs.Common.{◌≡◌, ℕ, ◌+◌, ◌-◌, ◌*◌, ◌/◌, ◌%◌, ◌^◌, ◌<◌, ◌≤◌, List, length, slice_index, sym, ◌∙◌, ap, arith}
use Rattle.std.proofs.lemmas.Nat.{pow-add, pow_pos, shr_high, mod_low, mul-add-lt, shr_below, mod_below, shl_whole, one_shl, or_shifted, and_mask}
use Rattle.ts_bit_rows.specs.BitRow.{SetsField}
use Rattle.ts_bit_rows.proofs.Fields.{SetsField-in_byte}
use Rattle.ts_packet.specs.Header.{byte_with, row_with}

module _ (byte first count value : ℕ) (inside : first + count ≤ 8) (fits : value < 2 ^ count) where
  -- the power at the field's end times that of its bits is that at its beginning
  powers : 2 ^ (8 - first) ≡ 2 ^ count * 2 ^ (8 - first - count)
  powers = let e : 8 - first ≡ count + (8 - first - count) = omega arith in ap (λ k. 2 ^ k) e ∙ pow-add 2 count (8 - first - count)

  low_part : byte % 2 ^ (8 - first - count) < 2 ^ (8 - first - count)
  low_part = mod_below byte (2 ^ (8 - first - count)) (pow_pos (8 - first - count))

  -- as digits: those above, then the value, then those below
  byte_with-digits : byte_with byte first count value ≡ (byte / 2 ^ (8 - first) * 2 ^ count + value) * 2 ^ (8 - first - count) + byte % 2 ^ (8 - first - count)
  byte_with-digits = let p = ap (λ k. byte / 2 ^ (8 - first) * k) powers in omega arith

  value_part : value * 2 ^ (8 - first - count) + byte % 2 ^ (8 - first - count) < 2 ^ (8 - first)
  value_part =
      let h = mul-add-lt value (2 ^ (8 - first - count)) (byte % 2 ^ (8 - first - count)) (2 ^ count) fits low_part in
      let p = powers in
      omega arith

  pub byte_with-above : byte_with byte first count value / 2 ^ (8 - first) ≡ byte / 2 ^ (8 - first)
  byte_with-above =
      let high = byte / 2 ^ (8 - first) in
      let e : byte_with byte first count value ≡ high * 2 ^ (8 - first) + (value * 2 ^ (8 - first - count) + byte % 2 ^ (8 - first - count)) = omega arith in
      rw e (shr_high high (8 - first) _ value_part)

  pub byte_with-written : byte_with byte first count value / 2 ^ (8 - first - count) % 2 ^ count ≡ value
  byte_with-written =
      rw (byte_with-digits, shr_high _ (8 - first - count) _ low_part) (mod_low _ count value fits)

  pub byte_with-below : byte_with byte first count value % 2 ^ (8 - first - count) ≡ byte % 2 ^ (8 - first - count)
  byte_with-below = rw byte_with-digits (mod_low _ (8 - first - count) _ low_part)

  pub byte_with-small : byte < 256 → byte_with byte first count value < 256
  byte_with-small h =
      let whole : first + (8 - first) ≡ 8 = omega arith in
      let bound : byte < 2 ^ (first + (8 - first)) = rw whole h in
      let high = shr_below byte first (8 - first) bound in
      let all = mul-add-lt (byte / 2 ^ (8 - first)) (2 ^ (8 - first)) _ (2 ^ first) high value_part in
      let back : 8 - first + first ≡ 8 = omega arith in
      let power : 2 ^ (8 - first) * 2 ^ first ≡ 256 = sym (pow-add 2 (8 - first) first) ∙ ap (λ k. 2 ^ k) back in
      omega arith

-- the row with those bits replaced has the field set
pub row_with-sets : (row : List ℕ) (k first count value : ℕ) → k < length row → first + count ≤ 8 → value < 2 ^ count → SetsField row (row_with row k first count value) (8 * k + first) count value
row_with-sets row k first count value within inside fits =
    let b = slice_index row k in
    let e : 8 - (first + count) ≡ 8 - first - count = omega arith in
    SetsField-in_byte row k first count (byte_with b first count value) value within inside
    (byte_with-above b first count value inside fits)
    (rw e (byte_with-written b first count value inside fits))
    (rw e (byte_with-below b first count value inside fits))

-- the byte that shifts and masks at 32 bits make of the parts
pub byte_from_parts : (byte first count value : ℕ) → first + count ≤ 8 → value < 2 ^ count → byte < 256
    → bit_or (bit_or (byte / 2 ^ (8 - first) * 2 ^ count % 4294967296) value * 2 ^ (8 - first - count) % 4294967296) (bit_and byte (1 * 2 ^ (8 - first - count) % 4294967296 - 1)) ≡ byte_with byte first count value
byte_from_parts byte first count value inside fits small =
    let low = 8 - first - count in
    let high = byte / 2 ^ (8 - first) in
    let whole : first + (8 - first) ≡ 8 = omega arith in
    let high_fits : high < 2 ^ first = shr_below byte first (8 - first) (rw whole small) in
    let front = high * 2 ^ count + value in
    let front_fits : front < 2 ^ (count + first) = rw (pow-add 2 count first) (mul-add-lt high (2 ^ count) value (2 ^ first) high_fits fits) in
    let shifted : high * 2 ^ count % 4294967296 ≡ high * 2 ^ count = shl_whole high first count 32 high_fits (omega arith) in
    let joined : bit_or (high * 2 ^ count) value ≡ front = or_shifted high count value fits in
    let moved : front * 2 ^ low % 4294967296 ≡ front * 2 ^ low = shl_whole front (count + first) low 32 front_fits (omega arith) in
    let one : 1 * 2 ^ low % 4294967296 ≡ 2 ^ low = one_shl low 32 (omega arith) in
    let masked : bit_and byte (2 ^ low - 1) ≡ byte % 2 ^ low = and_mask byte low in
    let all : bit_or (front * 2 ^ low) (byte % 2 ^ low) ≡ front * 2 ^ low + byte % 2 ^ low = or_shifted front low _ (low_part byte first count value inside fits) in
    rw (shifted, joined, moved, one, masked, all) (sym (byte_with-digits byte first count value inside fits))
