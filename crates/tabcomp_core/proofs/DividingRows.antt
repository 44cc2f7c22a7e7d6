-- Worked rows: sections and their runs.
use Rattle.std.proofs.Common.{◌≡◌, ℕ, List, [], ◌∷◌, refl}
use Rattle.std.specs.Prelude.{Ok, Err}
use Rattle.ts_bit_rows.specs.BitRow.{bit_of, field}
use Rattle.tabcomp_core.specs.Dividing.{members_from, runs_from, runs_in}

-- a section of this table_id, version byte, number and last number, up to its body
abbrev headed : ℕ → ℕ → ℕ → ℕ → List ℕ
headed id version number last = id ∷ 0xB0 ∷ 9 ∷ 0 ∷ 1 ∷ version ∷ number ∷ last ∷ []

abbrev first : List ℕ
first = headed 0x80 0xC1 0 1

abbrev second : List ℕ
second = headed 0x80 0xC1 1 1

abbrev late : List ℕ
late = headed 0x80 0xC3 1 1

abbrev other : List ℕ
other = 0x72 ∷ 0x70 ∷ 1 ∷ 0xAA ∷ []

whole : runs_in (first ∷ second ∷ other ∷ []) ≡ Ok ((first ∷ second ∷ []) ∷ (other ∷ []) ∷ [])
unfolding runs_from members_from field bit_of
whole = refl

out_of_order : runs_in (second ∷ first ∷ []) ≡ Err 0
unfolding runs_from members_from field bit_of
out_of_order = refl

last_wanting : runs_in (other ∷ first ∷ []) ≡ Err 2
unfolding runs_from members_from field bit_of
last_wanting = refl

version_changed : runs_in (first ∷ late ∷ []) ≡ Err 1
unfolding runs_from members_from field bit_of
version_changed = refl

-- each section of an EIT is a run by itself, whatever its number
each_alone : runs_in (headed 0x4E 0xC1 1 1 ∷ headed 0x4E 0xC1 0 1 ∷ []) ≡ Ok ((headed 0x4E 0xC1 1 1 ∷ []) ∷ (headed 0x4E 0xC1 0 1 ∷ []) ∷ [])
unfolding runs_from members_from field bit_of
each_alone = refl
