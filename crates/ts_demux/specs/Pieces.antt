-- Whether more can come of a stretch that has no whole piece in front.
-- ISO/IEC 13818-1, 2.4.4.1 and 2.4.4.11: stuffing, and the most that section_length may be.
use Rattle.std.specs.Prelude.{◌≡◌, ℕ, ◌==◌, ◌≤◌, ◌<◌, true, false, List, length, ◌⊎◌}
use Rattle.ts_section.specs.SectionFields.{table_id_of, section_length_of}

-- nothing more comes, whatever follows: it begins with stuffing or with a length that is too great
pub record IsOver (b : List ℕ) : Type 0 where
  pub some : 1 ≤ length b
  pub why : ((table_id_of b == 255) ≡ true) ⊎ ((3 ≤ length b) × (4093 < section_length_of b))

-- more may come: as far as the head is there, it is that of a section
pub record IsAlive (b : List ℕ) : Type 0 where
  pub no_stuffing : 1 ≤ length b → (table_id_of b == 255) ≡ false
  pub in_range : 3 ≤ length b → section_length_of b ≤ 4093
