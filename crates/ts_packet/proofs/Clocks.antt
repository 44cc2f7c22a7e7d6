-- The PCR field by its six bytes.
use Rattle.std.proofs.Common.{◌≡◌, ℕ, ◌+◌, ◌*◌, ◌/◌, ◌%◌, ◌^◌, ◌<◌, true, List, [], ◌∷◌, length, slice_index, set, take, drop, Some, refl, sym, ◌∙◌, arith, append_assoc, length-set}
use Rattle.std.proofs.lemmas.Nat.{shr-shr}
use Rattle.std.proofs.lemmas.List.Edits.{sets, sets-eq}
use Rattle.ts_bit_rows.specs.BitRow.{field, SetsField}
use Rattle.ts_bit_rows.proofs.Fields.{field-split, field-same, field-below, field-in_byte, field-whole_byte, SetsField-join, SetsField-whole_byte}
use Rattle.ts_packet.specs.Packet.{IsPacket}
use Rattle.ts_packet.specs.Adaptation.{adaptation_length_of}
use Rattle.ts_packet.specs.Pcr.{clock_of, has_pcr_of, pcr_of, clock_bytes, SetsPcr, with_pcr}
use Rattle.ts_packet.specs.Payload.{with_piece}

-- the value at the PCR's place, by its bytes
pub clock_of-bytes : (row : List ℕ) → IsPacket row → clock_of row
    ≡ ((((slice_index row 6 * 256 + slice_index row 7) * 256 + slice_index row 8) * 256 + slice_index row 9) * 2 + slice_index row 10 / 128) * 300 + (slice_index row 10 % 2 * 256 + slice_index row 11)
unfolding clock_of
clock_of-bytes row packet =
    let byte : (k : ℕ) → k < 188 → slice_index row k < 256 = λ k h. packet.each_a_byte k (omega (arith, packet.whole)) in
    let b6 = field-whole_byte row 6 (byte 6 (omega arith)) in
    let b7 = field-whole_byte row 7 (byte 7 (omega arith)) in
    let b8 = field-whole_byte row 8 (byte 8 (omega arith)) in
    let b9 = field-whole_byte row 9 (byte 9 (omega arith)) in
    let b11 = field-whole_byte row 11 (byte 11 (omega arith)) in
    let first = field-in_byte row 10 0 1 (omega arith) in
    let last = field-in_byte row 10 7 1 (omega arith) in
    let small = byte 10 (omega arith) in
    let two = field-split row 48 8 8 in
    let three = field-split row 48 16 8 in
    let four = field-split row 48 24 8 in
    let whole = field-split row 48 32 1 in
    let end = field-split row 87 1 8 in
    omega arith

-- six bytes written one after another
six_written : List ℕ → ℕ → ℕ → ℕ → ℕ → ℕ → ℕ → List ℕ
six_written row a b c d e f = set (set (set (set (set (set row 6 a) 7 b) 8 c) 9 d) 10 e) 11 f

record AllBytes (a b c d e f : ℕ) : Type 0 where
  pub is_a : a < 256
  pub is_b : b < 256
  pub is_c : c < 256
  pub is_d : d < 256
  pub is_e : e < 256
  pub is_f : f < 256

six_set : (row : List ℕ) (a b c d e f : ℕ) → length row ≡ 188 → AllBytes a b c d e f
    → SetsField row (six_written row a b c d e f) 48 48 (((((a * 256 + b) * 256 + c) * 256 + d) * 256 + e) * 256 + f)
unfolding six_written
six_set row a b c d e f len small =
    let r1 = set row 6 a in
    let r2 = set r1 7 b in
    let r3 = set r2 8 c in
    let r4 = set r3 9 d in
    let r5 = set r4 10 e in
    let r6 = set r5 11 f in
    let l1 = length-set row 6 a in
    let l2 = length-set r1 7 b in
    let l3 = length-set r2 8 c in
    let l4 = length-set r3 9 d in
    let l5 = length-set r4 10 e in
    let s1 = SetsField-whole_byte row 6 a (omega arith) small.is_a in
    let s2 = SetsField-whole_byte r1 7 b (omega arith) small.is_b in
    let s3 = SetsField-whole_byte r2 8 c (omega arith) small.is_c in
    let s4 = SetsField-whole_byte r3 9 d (omega arith) small.is_d in
    let s5 = SetsField-whole_byte r4 10 e (omega arith) small.is_e in
    let s6 = SetsField-whole_byte r5 11 f (omega arith) small.is_f in
    let j2 = SetsField-join row r1 r2 48 8 8 _ _ s1 s2 in
    let j3 = SetsField-join row r2 r3 48 16 8 _ _ j2 s3 in
    let j4 = SetsField-join row r3 r4 48 24 8 _ _ j3 s4 in
    let j5 = SetsField-join row r4 r5 48 32 8 _ _ j4 s5 in
    SetsField-join row r5 r6 48 40 8 _ _ j5 s6

with_piece-six : (row : List ℕ) (a b c d e f : ℕ) → length row ≡ 188 → with_piece row 6 (a ∷ b ∷ c ∷ d ∷ e ∷ f ∷ []) ≡ six_written row a b c d e f
unfolding six_written
with_piece-six row a b c d e f len =
    let vs = a ∷ b ∷ c ∷ d ∷ e ∷ f ∷ [] in
    sym (append_assoc (take 6 row) vs (drop 12 row)) ∙ sym (sets-eq vs row 6 (omega arith))

-- the digits of base and extension make the 48 bits of the field
digits : (base extension : ℕ)
    → ((((base / 2 ^ 25 * 256 + base / 2 ^ 17 % 256) * 256 + base / 2 ^ 9 % 256) * 256 + base / 2 % 256) * 256 + (base % 2 * 128 + 126 + extension / 256)) * 256 + extension % 256
    ≡ (base * 64 + 63) * 512 + extension
digits base extension =
    let a = shr-shr base 17 8 in
    let b = shr-shr base 9 8 in
    let c = shr-shr base 1 8 in
    omega arith

clock_set : (row : List ℕ) (base extension : ℕ) → length row ≡ 188 → base < 2 ^ 33 → extension < 2 ^ 9
    → SetsField row (with_piece row 6 (clock_bytes base extension)) 48 48 ((base * 64 + 63) * 512 + extension)
clock_set row base extension len base_fits extension_fits =
    rw (with_piece-six row _ _ _ _ _ _ len, ← digits base extension) (six_set row _ _ _ _ _ _ len (record {
      is_a = omega arith;
      is_b = omega arith;
      is_c = omega arith;
      is_d = omega arith;
      is_e = omega arith;
      is_f = omega arith;
    }))

-- the field with these 48 bits has base, reserved ones and extension
pub with_pcr-sets : (row : List ℕ) (value : ℕ) → length row ≡ 188 → value < 2 ^ 33 * 300 → SetsPcr row (with_pcr row value) value
unfolding with_pcr
with_pcr-sets row value len fits =
    let new = with_pcr row value in
    let sets = clock_set row (value / 300) (value % 300) len (omega arith) (omega arith) in
    let first = field-split new 48 33 15 in
    let rest = field-split new 81 6 9 in
    let small = field-below new 81 6 in
    let smaller = field-below new 87 9 in
    let read = sets.reads_back in
    record {
      same_length = sets.same_length;
      base = omega arith;
      reserved = omega arith;
      extension = omega arith;
      before = sets.before;
      after = sets.after;
    }

-- a row with another PCR has one as before
has_pcr_of-set : (old new : List ℕ) (value : ℕ) → SetsPcr old new value → has_pcr_of new ≡ has_pcr_of old
unfolding has_pcr_of adaptation_length_of
has_pcr_of-set old new value sets =
    let control = field-same old new 26 2 (λ i low high. sets.before i (omega arith)) in
    let len = field-same old new 32 8 (λ i low high. sets.before i (omega arith)) in
    let flag = field-same old new 43 1 (λ i low high. sets.before i (omega arith)) in
    rw (control, len, flag) refl

-- and reads as what was written
pub pcr_of-set : (old new : List ℕ) (value : ℕ) → SetsPcr old new value → has_pcr_of old ≡ true → pcr_of new ≡ Some value
unfolding pcr_of clock_of
pcr_of-set old new value sets has =
    let there = has_pcr_of-set old new value sets ∙ has in
    let base = sets.base in
    let extension = sets.extension in
    let read : field new 48 33 * 300 + field new 87 9 ≡ value = omega arith in
    rw (there, read) refl
