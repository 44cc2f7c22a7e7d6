-- The fields of a section by its bytes.
use Rattle.std.proofs.Common.{◌≡◌, ℕ, ◌+◌, ◌-◌, ◌*◌, ◌/◌, ◌%◌, ◌^◌, ◌<◌, ◌≤◌, List, length, get_or, take, drop, Bool, eqb, refl, sym, ap, ◌∙◌, arith}
use Rattle.std.proofs.Common.{inl, inr, Some, true}
use Rattle.std.proofs.lemmas.Nat.{and_mask}
use Rattle.std.specs.Prelude.{bit_and}
use Rattle.std.proofs.lemmas.Bool.{cases_lt}
use Rattle.std.proofs.lemmas.List.{get_or-drop, get_or_past, drop-take}
use Rattle.std.proofs.lemmas.List.Elements.{All-get_or}
use Rattle.ts_bit_rows.specs.BitRow.{bit_of, field}
use Rattle.ts_bit_rows.proofs.Fields as rows
use Rattle.ts_bit_rows.proofs.Fields.{field-split, field-whole_byte}
use Rattle.ts_section.specs.SectionFields.{is_long, head_fields, head_of, body_of}
use Rattle.ts_section.specs.declared.long_head.LongHead.{LongHead}
use Rattle.ts_section.specs.ValidSection.{IsSection}

-- each member of a row is a byte
abbrev pub IsBytes : List ℕ → Type 0
IsBytes b = (i : ℕ) → get_or b i 0 < 256

pub field-one_byte : (b : List ℕ) → IsBytes b → (at index : ℕ) → at ≡ 8 * index → field b at 8 ≡ get_or b index 0
field-one_byte b small at index same = ap (λ n. field b n 8) same ∙ field-whole_byte b index (small index)

pub field-in_byte : (b : List ℕ) → IsBytes b → (at count index before behind : ℕ) → at ≡ 8 * index + before → before + count + behind ≡ 8 → field b at count ≡ get_or b index 0 / 2 ^ behind % 2 ^ count
field-in_byte b small at count index before behind same whole =
    ap (λ n. field b n count) same ∙ rows.field-in_byte b index before count (omega arith)
    ∙ ap (λ n. get_or b index 0 / 2 ^ n % 2 ^ count) (omega arith)

pub bit_of-in_byte : (b : List ℕ) (at index place behind : ℕ) → at ≡ 8 * index + place → place + behind ≡ 7 → bit_of b at ≡ get_or b index 0 / 2 ^ behind % 2
bit_of-in_byte b at index place behind same whole =
    ap (bit_of b) same ∙ rows.bit_of-in_byte b index place (omega arith) ∙ ap (λ n. get_or b index 0 / 2 ^ n % 2) (omega arith)

-- section_length
pub length-bytes : (b : List ℕ) → IsBytes b → field b 12 12 ≡ get_or b 1 0 % 16 * 256 + get_or b 2 0
length-bytes b small =
    field-split b 12 4 8
    ∙ ap (λ n. n * 2 ^ 8 + field b 16 8) (field-in_byte b small 12 4 1 4 0 refl refl ∙ ap (λ n. n % 2 ^ 4) (omega arith))
    ∙ ap (λ n. get_or b 1 0 % 16 * 256 + n) (field-one_byte b small 16 2 refl)

-- a field of two whole bytes
pub field-two_bytes : (b : List ℕ) → IsBytes b → (at index : ℕ) → at ≡ 8 * index → field b at 16 ≡ get_or b index 0 * 256 + get_or b (index + 1) 0
field-two_bytes b small at index same =
    field-split b at 8 8
    ∙ ap (λ n. n * 2 ^ 8 + field b (at + 8) 8) (field-one_byte b small at index same)
    ∙ ap (λ n. get_or b index 0 * 256 + n) (field-one_byte b small (at + 8) (index + 1) (omega arith))

-- four whole bytes
pub field-four_bytes : (b : List ℕ) → IsBytes b → field b 0 32 ≡ ((get_or b 0 0 * 256 + get_or b 1 0) * 256 + get_or b 2 0) * 256 + get_or b 3 0
field-four_bytes b small =
    field-split b 0 16 16
    ∙ ap (λ n. n * 2 ^ 16 + field b 16 16) (field-two_bytes b small 0 0 refl)
    ∙ ap (λ n. (get_or b 0 0 * 256 + get_or b 1 0) * 2 ^ 16 + n) (field-two_bytes b small 16 2 refl)
    ∙ omega arith

-- the form's bit, as the code reads it
pub form-byte : (b : List ℕ) → IsBytes b → eqb (get_or b 1 0 / 128) 1 ≡ eqb (bit_of b 8) 1
form-byte b small =
    ap (λ n. eqb n 1) (omega (arith, small 1, bit_of-in_byte b 8 1 0 7 refl refl))

-- the private bit, as the code reads it
pub private-byte : (b : List ℕ) → IsBytes b → eqb (bit_and (get_or b 1 0 / 64) 1) 1 ≡ eqb (bit_of b 9) 1
private-byte b small =
    sym (ap (λ n. eqb n 1) (bit_of-in_byte b 9 1 1 6 refl refl ∙ sym (and_mask (get_or b 1 0 / 64) 1)))

pub table_id-byte : (b : List ℕ) → IsBytes b → field b 0 8 ≡ get_or b 0 0
table_id-byte b small = field-one_byte b small 0 0 refl

pub IsBytes-drop : (n : ℕ) (b : List ℕ) → IsBytes b → IsBytes (drop n b)
IsBytes-drop n b small = λ i. rw (get_or-drop n b i 0) (small (n + i))

-- the bytes of a valid section
pub IsBytes-section : (b : List ℕ) → IsSection b → IsBytes b
IsBytes-section b valid = λ i. elim (cases_lt i (length b)) [
  | inl inside ↦ All-get_or (λ x. x < 256) b i 0 inside valid.bytes
  | inr past ↦ rw (get_or_past b i 0 past) (omega arith)
]

-- a head by its fields
abbrev pub HeadOf : ℕ → Bool → ℕ → ℕ → Bool → ℕ → ℕ → LongHead
HeadOf a b c e d f g = record { table_id = a; private = b; extension = c; version = e; current = d; number = f; last = g }

-- two heads with the same fields
pub same_head : {a c e f : ℕ} {b d : Bool} {g : ℕ} {a' c' e' f' : ℕ} {b' d' : Bool} {g' : ℕ} → a ≡ a' → b ≡ b' → c ≡ c' → e ≡ e' → d ≡ d' → f ≡ f' → g ≡ g' → HeadOf a b c e d f g ≡ HeadOf a' b' c' e' d' f' g'
same_head p q r s t u v = cc

-- the head of a long section by its bytes
pub head-bytes : (b : List ℕ) → IsBytes b → (extension : ℕ) → extension ≡ get_or b 3 0 * 256 + get_or b 4 0 → head_fields b ≡ record {
  table_id = get_or b 0 0;
  private = eqb (bit_and (get_or b 1 0 / 64) 1) 1;
  extension = extension;
  version = bit_and (get_or b 5 0 / 2) 31;
  current = eqb (bit_and (get_or b 5 0) 1) 1;
  number = get_or b 6 0;
  last = get_or b 7 0;
}
head-bytes b small extension ext = same_head (table_id-byte b small) (ap (λ n. eqb n 1) (bit_of-in_byte b 9 1 1 6 refl refl ∙ sym (and_mask (get_or b 1 0 / 64) 1)))
    (field-two_bytes b small 24 3 refl ∙ sym ext)
    (field-in_byte b small 42 5 5 2 1 refl refl ∙ sym (and_mask (get_or b 5 0 / 2) 5))
    (ap (λ n. eqb n 1) (bit_of-in_byte b 47 5 7 0 refl refl ∙ ap (λ n. n % 2) (omega arith) ∙ sym (and_mask (get_or b 5 0) 1)))
    (field-one_byte b small 48 6 refl)
    (field-one_byte b small 56 7 refl)

-- the body of a long section as the code cuts it
pub long_body : (b : List ℕ) → is_long b ≡ true → 12 ≤ length b → take (length b - 4 - 8) (drop 8 b) ≡ body_of b
long_body b form room =
    let most : 8 + (length b - 4 - 8) ≡ length b - 4 = omega arith in
    sym (drop-take 8 (length b - 4 - 8) b) ∙ ap (λ n. drop 8 (take n b)) most ∙ rw form refl

-- the head of a long section
pub long_head : (b : List ℕ) (head : LongHead) → is_long b ≡ true → head ≡ head_fields b → Some head ≡ head_of b
long_head b head form same = ap (λ h. Some h) same ∙ rw form refl

-- the long form has room for its head and its CRC
pub long_size : (b : List ℕ) → IsSection b → is_long b ≡ true → 12 ≤ length b
long_size b valid form = omega (arith, valid.whole, (valid.long form).room)
