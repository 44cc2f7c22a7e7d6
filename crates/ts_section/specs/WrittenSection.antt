-- The section of a head and a body.
-- ISO/IEC 13818-1, 2.4.4.10; reserved bits are written as ones (2.1.64).
use Rattle.std.specs.Prelude.{◌≡◌, ℕ, ◌+◌, ◌*◌, ◌/◌, ◌%◌, Bool, true, false, List, [], ◌∷◌, ◌++◌, length}
use Rattle.ts_bit_rows.specs.BitRow.{field}
use Rattle.ts_section.specs.Crc.{crc_of}
use Rattle.ts_section.specs.SectionFields.{table_id_of, private_of, is_long, head_fields, body_of}
use Rattle.ts_section.specs.ValidSection.{IsSection}
use Rattle.ts_section.specs.declared.long_head.LongHead.{LongHead}

-- a bit as a number
abbrev pub bit_value : Bool → ℕ
bit_value true = 1
bit_value false = 0

-- the first three bytes of a section, reserved bits as ones
abbrev pub first_three : ℕ → Bool → Bool → ℕ → List ℕ
first_three table_id long «private» section_length =
    table_id ∷ (bit_value long * 128 + bit_value «private» * 64 + 48 + section_length / 256) ∷ section_length % 256 ∷ []

-- the five bytes that follow in the long form, reserved bits as ones
abbrev pub next_five : LongHead → List ℕ
next_five head =
    head.extension / 256 ∷ head.extension % 256 ∷ (192 + head.version * 2 + bit_value head.current) ∷ head.number ∷ head.last ∷ []

-- a number of 32 bits as four bytes, highest first
abbrev pub four_bytes : ℕ → List ℕ
four_bytes n = n / 16777216 % 256 ∷ n / 65536 % 256 ∷ n / 256 % 256 ∷ n % 256 ∷ []

-- the section of the long form with this head and this body; section_length counts the five bytes of the
-- head, the body and the four bytes of the CRC
unfoldable pub long_section : LongHead → List ℕ → List ℕ
long_section head body =
    let front = (first_three head.table_id true head.private (9 + length body) ++ next_five head) ++ body in
    front ++ four_bytes (crc_of front)

-- the section of the short form with this table_id, this private bit and this body
unfoldable pub short_section : ℕ → Bool → List ℕ → List ℕ
short_section table_id «private» body = first_three table_id false «private» (length body) ++ body

-- `s` is the one section of the long form with this head and this body
pub record IsLongSectionOf (head : LongHead) (body s : List ℕ) : Type 0 where
  pub valid : IsSection s
  pub long : is_long s ≡ true
  pub same_head : head_fields s ≡ head
  pub same_body : body_of s ≡ body
  pub reserved : field s 10 2 ≡ 3
  pub reserved_before_version : field s 40 2 ≡ 3

-- `s` is the one section of the short form with this table_id, this private bit and this body
pub record IsShortSectionOf (table_id : ℕ) («private» : Bool) (body s : List ℕ) : Type 0 where
  pub valid : IsSection s
  pub short : is_long s ≡ false
  pub same_id : table_id_of s ≡ table_id
  pub same_private : private_of s ≡ «private»
  pub same_body : body_of s ≡ body
  pub reserved : field s 10 2 ≡ 3
