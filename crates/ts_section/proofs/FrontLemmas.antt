-- The section before a longer row.
use Rattle.std.proofs.Common.{◌≡◌, ℕ, ◌+◌, ◌-◌, ◌<◌, ◌≤◌, Bool, true, false, List, length, take, Some, refl, sym, ap, arith}
use Rattle.std.specs.Prelude.{if◌then◌else◌, Option, nat_lt, ◌==◌}
use Rattle.std.proofs.lemmas.Bool.{ltb-true}
use Rattle.std.proofs.lemmas.List.{length-take, take_all}
use Rattle.ts_bit_rows.proofs.RowParts.{field-take}
use Rattle.ts_section.specs.Crc.{crc_of}
use Rattle.ts_section.specs.SectionFields.{table_id_of, is_long, section_length_of, number_of, last_number_of, crc_field_of, front_of}
use Rattle.ts_section.specs.FirstBroken.{first_broken, first_broken_long}
use Rattle.ts_section.specs.declared.fault.SectionFault.{SectionFault}
use Rattle.ts_section.specs.declared.fault.SectionFault.TheVariants.{Invalid}
use Rattle.ts_section.specs.declared.fault.SectionRule.TheVariants.{Trailing}

pub front-all : (b : List ℕ) → length b ≤ 3 + section_length_of b → b ≡ front_of b
unfolding front_of
front-all b few = sym (take_all (3 + section_length_of b) b few)

pub front-part : (b : List ℕ) (size : ℕ) → size ≡ section_length_of b → take (3 + size) b ≡ front_of b
unfolding front_of
front-part b size same = ap (λ n. take (3 + n) b) same

-- a property of a choice, by its cases
if_by : {C : Type 0} (P : C → Type 0) (b c : Bool) (x y : C) → c ≡ b → (c ≡ true → P x) → (c ≡ false → P y) → P (if b then x else y)
if_by P true c x y is good other = good is
if_by P false c x y is good other = other is

-- the rule about bytes after the end
abbrev Trails : Option SectionFault → Type 0
Trails o = o ≡ Some (Invalid Trailing)

long_not_trailing : (b : List ℕ) → Trails (first_broken_long b) → ⊥
unfolding first_broken_long
long_not_trailing b =
    if_by (λ o. Trails o → ⊥) (nat_lt (section_length_of b) 9) (nat_lt (section_length_of b) 9) _ _ refl (λ is e. cc)
    (λ is. if_by (λ o. Trails o → ⊥) (nat_lt (last_number_of b) (number_of b)) (nat_lt (last_number_of b) (number_of b)) _ _ refl (λ is e. cc)
    (λ is. if_by (λ o. Trails o → ⊥) (crc_of (take (length b - 4) b) == crc_field_of b) (crc_of (take (length b - 4) b) == crc_field_of b) _ _ refl (λ is e. cc) (λ is e. cc)))

not_trailing : (b : List ℕ) → length b ≤ 3 + section_length_of b → Trails (first_broken b) → ⊥
unfolding first_broken
not_trailing b few =
    if_by (λ o. Trails o → ⊥) (nat_lt (length b) 3) (nat_lt (length b) 3) _ _ refl (λ is e. cc)
    (λ is. if_by (λ o. Trails o → ⊥) (table_id_of b == 255) (table_id_of b == 255) _ _ refl (λ is e. cc)
    (λ is. if_by (λ o. Trails o → ⊥) (nat_lt 4093 (section_length_of b)) (nat_lt 4093 (section_length_of b)) _ _ refl (λ is e. cc)
    (λ is. if_by (λ o. Trails o → ⊥) (nat_lt (length b) (3 + section_length_of b)) (nat_lt (length b) (3 + section_length_of b)) _ _ refl (λ is e. cc)
    (λ is. if_by (λ o. Trails o → ⊥) (nat_lt (3 + section_length_of b) (length b)) (nat_lt (3 + section_length_of b) (length b)) _ _ refl
    (λ is e. let many : 3 + section_length_of b < length b = ltb-true (3 + section_length_of b) (length b) is in absurd (omega arith))
    (λ is. if_by (λ o. Trails o → ⊥) (is_long b) (is_long b) _ _ refl (λ is e. long_not_trailing b e) (λ is e. cc))))))

pub nothing_trails : (b : List ℕ) → Trails (first_broken (front_of b)) → ⊥
unfolding front_of
nothing_trails b =
    let size : section_length_of (take (3 + section_length_of b) b) ≡ section_length_of b = field-take (3 + section_length_of b) b 12 12 (omega arith) in
    not_trailing (take (3 + section_length_of b) b) (omega (arith, size, length-take (3 + section_length_of b) b))
