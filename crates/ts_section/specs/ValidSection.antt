-- Valid sections.
-- ISO/IEC 13818-1, 2.4.4.10 and 2.4.4.11; table_id 0xFF is forbidden there (Table 2-31), and begins stuffing.
use Rattle.std.specs.Prelude.{◌≡◌, ◌≢◌, ℕ, ◌+◌, ◌<◌, ◌≤◌, List, length, All, IsTrue}
use Rattle.ts_section.specs.Crc.{crc_of}
use Rattle.ts_section.specs.SectionFields.{table_id_of, is_long, section_length_of, number_of, last_number_of}

-- what a section of the long form keeps in addition
pub record IsLongForm (b : List ℕ) : Type 0 where
  -- the five bytes of the head and the four of the CRC are there
  pub room : 9 ≤ section_length_of b
  pub numbers : number_of b ≤ last_number_of b
  pub crc : crc_of b ≡ 0

-- a row of bytes is one whole valid section
pub record IsSection (b : List ℕ) : Type 0 where
  pub bytes : All (λ x. x < 256) b
  pub no_stuffing : table_id_of b ≢ 255
  pub in_range : section_length_of b ≤ 4093
  pub whole : length b ≡ 3 + section_length_of b
  pub long : IsTrue (is_long b) → IsLongForm b
