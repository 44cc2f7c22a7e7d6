-- Sections built from their parts.
use Rattle.std.proofs.Common.{◌≡◌, ℕ, ◌+◌, ◌-◌, ◌*◌, ◌/◌, ◌%◌, ◌^◌, ◌<◌, ◌≤◌, List, [], ◌∷◌, ◌++◌, length, take, drop, Bool, true, false, eqb, refl, sym, ap, ◌∙◌, arith, suc, zero, length-append, append_assoc}
use mir.Val.{bool_byte}
use Rattle.std.specs.Prelude.{All, bit_or, ◌==◌}
use Rattle.std.proofs.Math.Seq.{take-append_seam, drop-append_seam}
use Rattle.std.proofs.lemmas.Bool.{false≢true}
use Rattle.std.proofs.lemmas.Nat.{or_shifted}
use Rattle.std.proofs.lemmas.List.Elements.{All-from_get_or, All-append}
use Rattle.ts_bit_rows.specs.BitRow.{bit_of, field}
use Rattle.ts_bit_rows.proofs.RowParts.{bit_of-append_left, bit_of-append_right, field-append_left, field-append_right}
use Rattle.ts_section.specs.Crc.{crc_of}
use Rattle.ts_section.specs.SectionFields.{table_id_of, private_of, is_long, section_length_of, number_of, last_number_of, head_fields, body_of}
use Rattle.ts_section.specs.WrittenSection.{bit_value, first_three, next_five, four_bytes, long_section, short_section, IsLongSectionOf, IsShortSectionOf}
use Rattle.ts_section.specs.declared.long_head.LongHead.{LongHead}
use Rattle.ts_section.proofs.CrcLemmas.{crc_of-own, crc_of-lt}
use Rattle.ts_section.proofs.HeadBytes.{IsBytes, bit_of-in_byte, field-in_byte, field-one_byte, field-two_bytes, field-four_bytes, length-bytes, table_id-byte, same_head}

-- the first three bytes of a section, reserved bits as ones
pub record AreFirstBytes (table_id : ℕ) (long «private» : Bool) (section_length : ℕ) (b : List ℕ) : Type 0 where
  pub bytes : All (λ x. x < 256) b
  pub three : length b ≡ 3
  pub same_id : table_id_of b ≡ table_id
  pub same_form : is_long b ≡ long
  pub same_private : private_of b ≡ «private»
  pub reserved : field b 10 2 ≡ 3
  pub same_length : section_length_of b ≡ section_length

-- the five bytes that follow in the long form, reserved bits as ones
pub record AreLongBytes (head : LongHead) (b : List ℕ) : Type 0 where
  pub bytes : All (λ x. x < 256) b
  pub five : length b ≡ 5
  pub same_extension : field b 0 16 ≡ head.extension
  pub reserved : field b 16 2 ≡ 3
  pub same_version : field b 18 5 ≡ head.version
  pub same_current : (bit_of b 23 == 1) ≡ head.current
  pub same_number : field b 24 8 ≡ head.number
  pub same_last : field b 32 8 ≡ head.last

three_bytes : (x y z : ℕ) → x < 256 → y < 256 → z < 256 → IsBytes (x ∷ y ∷ z ∷ [])
three_bytes x y z p q r zero = p
three_bytes x y z p q r (suc zero) = q
three_bytes x y z p q r (suc (suc zero)) = r
three_bytes x y z p q r (suc (suc (suc i))) = omega arith

five_bytes : (v w x y z : ℕ) → v < 256 → w < 256 → x < 256 → y < 256 → z < 256 → IsBytes (v ∷ w ∷ x ∷ y ∷ z ∷ [])
five_bytes v w x y z m n p q r zero = m
five_bytes v w x y z m n p q r (suc zero) = n
five_bytes v w x y z m n p q r (suc (suc i)) = three_bytes x y z p q r i

pub all_bytes : (b : List ℕ) → IsBytes b → All (λ x. x < 256) b
all_bytes b small = All-from_get_or (λ x. x < 256) b 0 (λ i inside. small i)

-- the second byte of a section as the code joins it
pub second_byte : (l p high : ℕ) → l < 2 → p < 2 → high < 16 → bit_or (bit_or (bit_or (l * 128 % 256) (p * 64 % 256)) 48) high ≡ l * 128 + p * 64 + 48 + high
second_byte l p high one_l one_p small =
    let move_l : l * 128 % 256 ≡ l * 2 ^ 7 = omega arith in
    let move_p : p * 64 % 256 ≡ p * 64 = omega arith in
    let two : l * 2 ^ 7 + p * 64 ≡ (l * 2 + p) * 2 ^ 6 = omega arith in
    let four : (l * 2 + p) * 2 ^ 6 + 48 ≡ (l * 8 + p * 4 + 3) * 2 ^ 4 = omega arith in
    ap (λ n. bit_or (bit_or (bit_or n (p * 64 % 256)) 48) high) move_l
    ∙ ap (λ n. bit_or (bit_or (bit_or (l * 2 ^ 7) n) 48) high) move_p
    ∙ ap (λ n. bit_or (bit_or n 48) high) (or_shifted l 7 (p * 64) (omega arith) ∙ two)
    ∙ ap (λ n. bit_or n high) (or_shifted (l * 2 + p) 6 48 (omega arith) ∙ four)
    ∙ or_shifted (l * 8 + p * 4 + 3) 4 high small
    ∙ omega arith

pub first_bytes-are : (id flags low l p high len : ℕ) (long «private» : Bool) → id < 256 → low < 256 → flags ≡ l * 128 + p * 64 + 48 + high → l < 2 → p < 2 → high < 16 → len ≡ high * 256 + low → eqb l 1 ≡ long → eqb p 1 ≡ «private» → AreFirstBytes id long «private» len (id ∷ flags ∷ low ∷ [])
first_bytes-are id flags low l p high len long «private» small_id small_low joined one_l one_p small_high len_is long_is private_is =
    let small : IsBytes (id ∷ flags ∷ low ∷ []) = three_bytes id flags low small_id (omega arith) small_low in
    record {
      bytes = all_bytes (id ∷ flags ∷ low ∷ []) small;
      three = refl;
      same_id = table_id-byte (id ∷ flags ∷ low ∷ []) small;
      same_form = ap (λ n. eqb n 1) (bit_of-in_byte (id ∷ flags ∷ low ∷ []) 8 1 0 7 refl refl ∙ omega arith) ∙ long_is;
      same_private = ap (λ n. eqb n 1) (bit_of-in_byte (id ∷ flags ∷ low ∷ []) 9 1 1 6 refl refl ∙ omega arith) ∙ private_is;
      reserved = field-in_byte (id ∷ flags ∷ low ∷ []) small 10 2 1 2 4 refl refl ∙ omega arith;
      same_length = length-bytes (id ∷ flags ∷ low ∷ []) small ∙ omega arith;
    }

-- the byte of the version as the code joins it
pub sixth_byte : (version c : ℕ) → version < 32 → c < 2 → bit_or (bit_or 192 (version * 2 % 256)) c ≡ 192 + version * 2 + c
sixth_byte version c small one =
    let move : version * 2 % 256 ≡ version * 2 = omega arith in
    let half : 3 * 2 ^ 6 + version * 2 ≡ (96 + version) * 2 ^ 1 = omega arith in
    ap (λ n. bit_or (bit_or 192 n) c) move
    ∙ ap (λ n. bit_or n c) (or_shifted 3 6 (version * 2) (omega arith) ∙ half)
    ∙ or_shifted (96 + version) 1 c one
    ∙ omega arith

pub long_bytes-are : (head : LongHead) (high low joined c : ℕ) → high < 256 → low < 256 → head.number < 256 → head.last < 256 → head.version < 32 → c < 2 → joined ≡ 192 + head.version * 2 + c → head.extension ≡ high * 256 + low → eqb c 1 ≡ head.current → AreLongBytes head (high ∷ low ∷ joined ∷ head.number ∷ head.last ∷ [])
long_bytes-are head high low joined c small_high small_low small_number small_last small_version one joined_is extension_is current_is =
    let small : IsBytes (high ∷ low ∷ joined ∷ head.number ∷ head.last ∷ []) =
    five_bytes high low joined head.number head.last small_high small_low (omega arith) small_number small_last in
    record {
      bytes = all_bytes (high ∷ low ∷ joined ∷ head.number ∷ head.last ∷ []) small;
      five = refl;
      same_extension = field-two_bytes (high ∷ low ∷ joined ∷ head.number ∷ head.last ∷ []) small 0 0 refl ∙ sym extension_is;
      reserved = field-in_byte (high ∷ low ∷ joined ∷ head.number ∷ head.last ∷ []) small 16 2 2 0 6 refl refl ∙ omega arith;
      same_version = field-in_byte (high ∷ low ∷ joined ∷ head.number ∷ head.last ∷ []) small 18 5 2 2 1 refl refl ∙ omega arith;
      same_current = ap (λ n. eqb n 1) (bit_of-in_byte (high ∷ low ∷ joined ∷ head.number ∷ head.last ∷ []) 23 2 7 0 refl refl ∙ omega arith) ∙ current_is;
      same_number = field-one_byte (high ∷ low ∷ joined ∷ head.number ∷ head.last ∷ []) small 24 3 refl;
      same_last = field-one_byte (high ∷ low ∷ joined ∷ head.number ∷ head.last ∷ []) small 32 4 refl;
    }

-- a short section of its two parts
parts_short : (id : ℕ) («private» : Bool) (len : ℕ) (a body : List ℕ) → AreFirstBytes id false «private» len a → All (λ x. x < 256) body → id < 255 → len ≡ length body → len ≤ 4093 → IsShortSectionOf id «private» body (a ++ body)
parts_short id «private» len a body first bytes valid_id len_is range =
    let three : length a ≡ 3 = first.three in
    let id_is : table_id_of (a ++ body) ≡ id = field-append_left a body 0 8 (omega arith) ∙ first.same_id in
    let length_is : section_length_of (a ++ body) ≡ len = field-append_left a body 12 12 (omega arith) ∙ first.same_length in
    let form : is_long (a ++ body) ≡ false = ap (λ n. eqb n 1) (bit_of-append_left a body 8 (omega arith)) ∙ first.same_form in
    record {
      valid = record {
        bytes = All-append (λ x. x < 256) a body first.bytes bytes;
        no_stuffing = λ same. absurd (omega (arith, same));
        in_range = omega arith;
        whole = omega (arith, length-append a body);
        long = λ long. absurd (false≢true (sym form ∙ long));
      };
      short = form;
      same_id = id_is;
      same_private = ap (λ n. eqb n 1) (bit_of-append_left a body 9 (omega arith)) ∙ first.same_private;
      same_body = rw form (ap (λ n. drop n (a ++ body)) (sym three) ∙ drop-append_seam a body);
      reserved = field-append_left a body 10 2 (omega arith) ∙ first.reserved;
    }

-- the fields of a long section, from its head's two parts
front_field : (front rest : List ℕ) (at count : ℕ) → length front ≡ 8 → at + count ≤ 64 → field (front ++ rest) at count ≡ field front at count
front_field front rest at count eight inside = field-append_left front rest at count (omega arith)

first_field : (a r : List ℕ) (at count : ℕ) → length a ≡ 3 → at + count ≤ 24 → field (a ++ r) at count ≡ field a at count
first_field a r at count three inside = field-append_left a r at count (omega arith)

second_field : (a r : List ℕ) (at place count : ℕ) → length a ≡ 3 → at ≡ 24 + place → field (a ++ r) at count ≡ field r place count
second_field a r at place count three same =
    let moved : at ≡ 8 * length a + place = omega arith in
    ap (λ n. field (a ++ r) n count) moved ∙ field-append_right a r place count

second_bit : (a r : List ℕ) (at place : ℕ) → length a ≡ 3 → at ≡ 24 + place → bit_of (a ++ r) at ≡ bit_of r place
second_bit a r at place three same =
    let moved : at ≡ 8 * length a + place = omega arith in
    ap (bit_of (a ++ r)) moved ∙ bit_of-append_right a r place

long_head_is : (head : LongHead) (a r rest : List ℕ) (len : ℕ) → AreFirstBytes head.table_id true head.private len a → AreLongBytes head r → length (a ++ r) ≡ 8 → head_fields ((a ++ r) ++ rest) ≡ head
long_head_is head a r rest len first second eight =
    same_head
    (front_field (a ++ r) rest 0 8 eight (omega arith) ∙ first_field a r 0 8 first.three (omega arith) ∙ first.same_id)
    (ap (λ n. eqb n 1) (bit_of-append_left (a ++ r) rest 9 (omega arith) ∙ bit_of-append_left a r 9 (omega (arith, first.three))) ∙ first.same_private)
    (front_field (a ++ r) rest 24 16 eight (omega arith) ∙ second_field a r 24 0 16 first.three refl ∙ second.same_extension)
    (front_field (a ++ r) rest 42 5 eight (omega arith) ∙ second_field a r 42 18 5 first.three refl ∙ second.same_version)
    (ap (λ n. eqb n 1) (bit_of-append_left (a ++ r) rest 47 (omega arith) ∙ second_bit a r 47 23 first.three refl) ∙ second.same_current)
    (front_field (a ++ r) rest 48 8 eight (omega arith) ∙ second_field a r 48 24 8 first.three refl ∙ second.same_number)
    (front_field (a ++ r) rest 56 8 eight (omega arith) ∙ second_field a r 56 32 8 first.three refl ∙ second.same_last)

-- the body of a long section of its parts
long_body_is : (front body k : List ℕ) → length front ≡ 8 → length k ≡ 4 → is_long ((front ++ body) ++ k) ≡ true → body_of ((front ++ body) ++ k) ≡ body
long_body_is front body k eight four form =
    let before : length ((front ++ body) ++ k) - 4 ≡ length (front ++ body) = omega (arith, length-append (front ++ body) k) in
    rw form (
    ap (λ n. drop 8 (take n ((front ++ body) ++ k))) before
    ∙ ap (drop 8) (take-append_seam (front ++ body) k)
    ∙ ap (λ n. drop n (front ++ body)) (sym eight)
    ∙ drop-append_seam front body
    )

-- a long section of its four parts
parts_long : (head : LongHead) (len : ℕ) (a r body k : List ℕ) → AreFirstBytes head.table_id true head.private len a → AreLongBytes head r → All (λ x. x < 256) body → All (λ x. x < 256) k → length k ≡ 4 → field k 0 32 ≡ crc_of ((a ++ r) ++ body) → head.table_id < 255 → head.number ≤ head.last → len ≡ 9 + length body → length body ≤ 4084 → IsLongSectionOf head body (((a ++ r) ++ body) ++ k)
parts_long head len a r body k first second body_bytes k_bytes four own valid_id numbers len_is room =
    let eight : length (a ++ r) ≡ 8 = omega (arith, length-append a r, first.three, second.five) in
    let rest : ((a ++ r) ++ body) ++ k ≡ (a ++ r) ++ (body ++ k) = append_assoc (a ++ r) body k in
    let head_is : head_fields (((a ++ r) ++ body) ++ k) ≡ head = ap head_fields rest ∙ long_head_is head a r (body ++ k) len first second eight in
    let id_is : table_id_of (((a ++ r) ++ body) ++ k) ≡ head.table_id = ap (λ h. h.table_id) head_is in
    let number_is : number_of (((a ++ r) ++ body) ++ k) ≡ head.number = ap (λ h. h.number) head_is in
    let last_is : last_number_of (((a ++ r) ++ body) ++ k) ≡ head.last = ap (λ h. h.last) head_is in
    let length_is : section_length_of (((a ++ r) ++ body) ++ k) ≡ len =
    ap section_length_of rest ∙ front_field (a ++ r) (body ++ k) 12 12 eight (omega arith) ∙ first_field a r 12 12 first.three (omega arith) ∙ first.same_length in
    let form : is_long (((a ++ r) ++ body) ++ k) ≡ true =
    ap is_long rest ∙ ap (λ n. eqb n 1) (bit_of-append_left (a ++ r) (body ++ k) 8 (omega arith) ∙ bit_of-append_left a r 8 (omega (arith, first.three))) ∙ first.same_form in
    record {
      valid = record {
        bytes = All-append (λ x. x < 256) ((a ++ r) ++ body) k (All-append (λ x. x < 256) (a ++ r) body (All-append (λ x. x < 256) a r first.bytes second.bytes) body_bytes) k_bytes;
        no_stuffing = λ same. absurd (omega (arith, same));
        in_range = omega arith;
        whole = omega (arith, length-append ((a ++ r) ++ body) k, length-append (a ++ r) body);
        long = λ long. record { room = omega arith; numbers = omega arith; crc = crc_of-own ((a ++ r) ++ body) k four own };
      };
      long = form;
      same_head = head_is;
      same_body = long_body_is (a ++ r) body k eight four form;
      reserved = ap (λ n. field n 10 2) rest ∙ front_field (a ++ r) (body ++ k) 10 2 eight (omega arith) ∙ first_field a r 10 2 first.three (omega arith) ∙ first.reserved;
      reserved_before_version = ap (λ n. field n 40 2) rest ∙ front_field (a ++ r) (body ++ k) 40 2 eight (omega arith) ∙ second_field a r 40 16 2 first.three refl ∙ second.reserved;
    }

pub four_small : (w x y z : ℕ) → w < 256 → x < 256 → y < 256 → z < 256 → IsBytes (w ∷ x ∷ y ∷ z ∷ [])
four_small w x y z n p q r zero = n
four_small w x y z n p q r (suc i) = three_bytes x y z p q r i

-- the four bytes of a number
four_bytes-field : (n : ℕ) → n < 2 ^ 32 → field (n / 16777216 % 256 ∷ n / 65536 % 256 ∷ n / 256 % 256 ∷ n % 256 ∷ []) 0 32 ≡ n
four_bytes-field n small =
    field-four_bytes (n / 16777216 % 256 ∷ n / 65536 % 256 ∷ n / 256 % 256 ∷ n % 256 ∷ [])
    (four_small (n / 16777216 % 256) (n / 65536 % 256) (n / 256 % 256) (n % 256) (omega arith) (omega arith) (omega arith) (omega arith))
    ∙ omega arith

bit_value-lt : (b : Bool) → bit_value b < 2
bit_value-lt true = omega arith
bit_value-lt false = omega arith

bit_value-is : (b : Bool) → eqb (bit_value b) 1 ≡ b
bit_value-is true = refl
bit_value-is false = refl

pub bool_byte-value : (b : Bool) → bool_byte b ≡ bit_value b
bool_byte-value true = refl
bool_byte-value false = refl

first_three-are : (id len : ℕ) (long «private» : Bool) → id < 256 → len < 4096 → AreFirstBytes id long «private» len (first_three id long «private» len)
first_three-are id len long «private» small range =
    first_bytes-are id _ (len % 256) (bit_value long) (bit_value «private») (len / 256) len long «private»
    small (omega arith) refl (bit_value-lt long) (bit_value-lt «private») (omega arith) (omega arith) (bit_value-is long) (bit_value-is «private»)

next_five-are : (head : LongHead) → head.extension < 65536 → head.version < 32 → head.number < 256 → head.last < 256 → AreLongBytes head (next_five head)
next_five-are head small_extension small_version small_number small_last =
    long_bytes-are head (head.extension / 256) (head.extension % 256) _ (bit_value head.current)
    (omega arith) (omega arith) small_number small_last small_version (bit_value-lt head.current) refl (omega arith) (bit_value-is head.current)

-- the first three bytes as the code joins them
pub first_three-made : (id l p high low : ℕ) (len : ℕ) (long «private» : Bool) → l ≡ bool_byte long → p ≡ bool_byte «private» → high ≡ len / 256 % 256 → low ≡ len % 256 → len < 4096
    → id ∷ bit_or (bit_or (bit_or (l * 128 % 256) (p * 64 % 256)) 48) high ∷ low ∷ [] ≡ first_three id long «private» len
first_three-made id l p high low len long «private» l_is p_is high_is low_is range =
    let l_value : l ≡ bit_value long = l_is ∙ bool_byte-value long in
    let p_value : p ≡ bit_value «private» = p_is ∙ bool_byte-value «private» in
    let one_l : l < 2 = omega (arith, l_value, bit_value-lt long) in
    let one_p : p < 2 = omega (arith, p_value, bit_value-lt «private») in
    let joined : bit_or (bit_or (bit_or (l * 128 % 256) (p * 64 % 256)) 48) high ≡ bit_value long * 128 + bit_value «private» * 64 + 48 + len / 256 =
    second_byte l p high one_l one_p (omega arith) ∙ omega (arith, l_value, p_value) in
    cc (joined, low_is)

-- the five bytes that follow as the code joins them
pub next_five-made : (head : LongHead) (high low c : ℕ) → head.version < 32 → c ≡ bool_byte head.current → high ≡ head.extension / 256 % 256 → low ≡ head.extension % 256 → head.extension < 65536
    → high ∷ low ∷ bit_or (bit_or 192 (head.version * 2 % 256)) c ∷ head.number ∷ head.last ∷ [] ≡ next_five head
next_five-made head high low c small c_is high_is low_is range =
    let c_value : c ≡ bit_value head.current = c_is ∙ bool_byte-value head.current in
    let one : c < 2 = omega (arith, c_value, bit_value-lt head.current) in
    let joined : bit_or (bit_or 192 (head.version * 2 % 256)) c ≡ 192 + head.version * 2 + bit_value head.current = sixth_byte head.version c small one ∙ omega (arith, c_value) in
    let first : high ≡ head.extension / 256 = omega arith in
    cc (joined, first, low_is)

-- what a short section is
pub short_section-is : (id : ℕ) («private» : Bool) (body : List ℕ) → id < 255 → All (λ x. x < 256) body → length body ≤ 4093 → IsShortSectionOf id «private» body (short_section id «private» body)
unfolding short_section
short_section-is id «private» body valid_id bytes range =
    parts_short id «private» (length body) (first_three id false «private» (length body)) body
    (first_three-are id (length body) false «private» (omega arith) (omega arith)) bytes valid_id refl range

-- what a long section is
pub long_section-is : (head : LongHead) (body : List ℕ) → head.table_id < 255 → head.extension < 65536 → head.version < 32 → head.number ≤ head.last → head.last < 256 → All (λ x. x < 256) body → length body ≤ 4084 → IsLongSectionOf head body (long_section head body)
unfolding long_section
long_section-is head body valid_id extension version numbers last bytes room =
    let a = first_three head.table_id true head.private (9 + length body) in
    let r = next_five head in
    let register = crc_of ((a ++ r) ++ body) in
    let small : register < 2 ^ 32 = crc_of-lt ((a ++ r) ++ body) in
    let k_bytes : All (λ x. x < 256) (four_bytes register) =
    all_bytes (four_bytes register)
    (four_small (register / 16777216 % 256) (register / 65536 % 256) (register / 256 % 256) (register % 256) (omega arith) (omega arith) (omega arith) (omega arith)) in
    parts_long head (9 + length body) a r body (four_bytes register)
    (first_three-are head.table_id (9 + length body) true head.private (omega arith) (omega arith))
    (next_five-are head extension version (omega arith) last) bytes k_bytes refl (four_bytes-field register small) valid_id numbers refl room

-- a short section as the code fills it
pub short_made : (id : ℕ) («private» : Bool) (a body none one two : List ℕ) → none ≡ [] → one ≡ none ++ a → two ≡ one ++ body → a ≡ first_three id false «private» (length body) → two ≡ short_section id «private» body
unfolding short_section
short_made id «private» a body none one two begun once twice first =
    twice ∙ ap (λ row. row ++ body) (once ∙ ap (λ row. row ++ a) begun ∙ first)

-- a long section as the code fills it
pub long_made : (head : LongHead) (len : ℕ) (a r body k none one two three four read : List ℕ) (register : ℕ) → none ≡ [] → one ≡ none ++ a → two ≡ one ++ r → three ≡ two ++ body → four ≡ three ++ k → read ≡ three → register ≡ crc_of read
    → k ≡ four_bytes register → a ≡ first_three head.table_id true head.private len → r ≡ next_five head → len ≡ 9 + length body → four ≡ long_section head body
unfolding long_section
long_made head len a r body k none one two three four read register begun once twice thrice last read_is register_is k_is first second len_is =
    let front : three ≡ (first_three head.table_id true head.private (9 + length body) ++ next_five head) ++ body =
    thrice ∙ ap (λ row. row ++ body) (twice ∙ ap (λ row. row ++ r) (once ∙ ap (λ row. row ++ a) begun ∙ first ∙ ap (first_three head.table_id true head.private) len_is)
    ∙ ap (λ row. first_three head.table_id true head.private (9 + length body) ++ row) second) in
    last ∙ ap (λ row. row ++ k) front
    ∙ ap (λ row. ((first_three head.table_id true head.private (9 + length body) ++ next_five head) ++ body) ++ row) (k_is ∙ ap four_bytes (register_is ∙ ap crc_of (read_is ∙ front)))
