-- The first broken rule, case by case, and that none is broken exactly in valid sections.
use Rattle.std.proofs.Common.{◌≡◌, ◌≢◌, ℕ, ◌+◌, ◌-◌, ◌<◌, ◌≤◌, List, length, take, drop, true, false, eqb, Option, Some, None, refl, sym, ap, ◌∙◌, inl, inr, arith}
use Rattle.std.specs.Prelude.{All}
use Rattle.std.proofs.lemmas.Bool.{lt-ltb, le-ltb, eq-eqb, cases_lt, cases_eq, cases_Bool}
use Rattle.std.proofs.lemmas.Bool.Decides.{eqb_tells}
use Rattle.std.proofs.lemmas.List.{take-append-drop, length-drop}
use Rattle.ts_section.specs.Crc.{crc_of}
use Rattle.ts_section.specs.SectionFields.{table_id_of, is_long, section_length_of, number_of, last_number_of, crc_field_of}
use Rattle.ts_section.specs.FirstBroken.{first_broken, first_broken_long}
use Rattle.ts_section.specs.ValidSection.{IsSection}
use Rattle.ts_section.specs.declared.fault.SectionFault.{SectionFault}
use Rattle.ts_section.specs.declared.fault.SectionFault.TheVariants.{Short, Invalid, TooLong, BadCrc}
use Rattle.ts_section.specs.declared.fault.SectionRule.TheVariants.{Stuffing, Trailing, ShortLong, Numbers}
use Rattle.ts_section.proofs.CrcLemmas.{crc_of-own, crc_of-zero}

ne-eqb : (a b : ℕ) → a ≢ b → eqb a b ≡ false
ne-eqb a b apart = elim (eqb_tells a b) [ inl same ↦ absurd (apart same.1) | inr other ↦ other.0 ]

pub short_head-broken : (b : List ℕ) → length b < 3 → first_broken b ≡ Some (Short 3 (length b))
unfolding first_broken
short_head-broken b few = rw (lt-ltb (length b) 3 few) refl

pub stuffing-broken : (b : List ℕ) → 3 ≤ length b → table_id_of b ≡ 255 → first_broken b ≡ Some (Invalid Stuffing)
unfolding first_broken
stuffing-broken b head stuffed = rw (le-ltb (length b) 3 head, eq-eqb (table_id_of b) 255 stuffed) refl

pub too_long-broken : (b : List ℕ) → 3 ≤ length b → table_id_of b ≢ 255 → 4093 < section_length_of b → first_broken b ≡ Some (TooLong (section_length_of b))
unfolding first_broken
too_long-broken b head id much = rw (le-ltb (length b) 3 head, ne-eqb (table_id_of b) 255 id, lt-ltb 4093 (section_length_of b) much) refl

pub short-broken : (b : List ℕ) → 3 ≤ length b → table_id_of b ≢ 255 → section_length_of b ≤ 4093 → length b < 3 + section_length_of b → first_broken b ≡ Some (Short (3 + section_length_of b) (length b))
unfolding first_broken
short-broken b head id range few =
    rw (le-ltb (length b) 3 head, ne-eqb (table_id_of b) 255 id, le-ltb 4093 (section_length_of b) range, lt-ltb (length b) (3 + section_length_of b) few) refl

pub trailing-broken : (b : List ℕ) → 3 ≤ length b → table_id_of b ≢ 255 → section_length_of b ≤ 4093 → 3 + section_length_of b < length b → first_broken b ≡ Some (Invalid Trailing)
unfolding first_broken
trailing-broken b head id range many =
    rw (
      le-ltb (length b) 3 head,
      ne-eqb (table_id_of b) 255 id,
      le-ltb 4093 (section_length_of b) range,
      le-ltb (length b) (3 + section_length_of b) (omega arith),
      lt-ltb (3 + section_length_of b) (length b) many,
    ) refl

pub short_form-broken : (b : List ℕ) → table_id_of b ≢ 255 → section_length_of b ≤ 4093 → length b ≡ 3 + section_length_of b → is_long b ≡ false → first_broken b ≡ None
unfolding first_broken
short_form-broken b id range whole form =
    rw (
      le-ltb (length b) 3 (omega arith),
      ne-eqb (table_id_of b) 255 id,
      le-ltb 4093 (section_length_of b) range,
      le-ltb (length b) (3 + section_length_of b) (omega arith),
      le-ltb (3 + section_length_of b) (length b) (omega arith),
      form,
    ) refl

pub long_form-broken : (b : List ℕ) → table_id_of b ≢ 255 → section_length_of b ≤ 4093 → length b ≡ 3 + section_length_of b → is_long b ≡ true → first_broken b ≡ first_broken_long b
unfolding first_broken
long_form-broken b id range whole form =
    rw (
      le-ltb (length b) 3 (omega arith),
      ne-eqb (table_id_of b) 255 id,
      le-ltb 4093 (section_length_of b) range,
      le-ltb (length b) (3 + section_length_of b) (omega arith),
      le-ltb (3 + section_length_of b) (length b) (omega arith),
      form,
    ) refl

pub short_long-broken : (b : List ℕ) → section_length_of b < 9 → first_broken_long b ≡ Some (Invalid ShortLong)
unfolding first_broken_long
short_long-broken b few = rw (lt-ltb (section_length_of b) 9 few) refl

pub numbers-broken : (b : List ℕ) → 9 ≤ section_length_of b → last_number_of b < number_of b → first_broken_long b ≡ Some (Invalid Numbers)
unfolding first_broken_long
numbers-broken b room above = rw (le-ltb (section_length_of b) 9 room, lt-ltb (last_number_of b) (number_of b) above) refl

pub good_crc-broken : (b : List ℕ) → 9 ≤ section_length_of b → number_of b ≤ last_number_of b → crc_of (take (length b - 4) b) ≡ crc_field_of b → first_broken_long b ≡ None
unfolding first_broken_long
good_crc-broken b room within same =
    rw (
      le-ltb (section_length_of b) 9 room,
      le-ltb (last_number_of b) (number_of b) within,
      eq-eqb (crc_of (take (length b - 4) b)) (crc_field_of b) same,
    ) refl

pub bad_crc-broken : (b : List ℕ) → 9 ≤ section_length_of b → number_of b ≤ last_number_of b → crc_of (take (length b - 4) b) ≢ crc_field_of b → first_broken_long b ≡ Some (BadCrc (crc_of (take (length b - 4) b)) (crc_field_of b))
unfolding first_broken_long
bad_crc-broken b room within other =
    rw (
      le-ltb (section_length_of b) 9 room,
      le-ltb (last_number_of b) (number_of b) within,
      ne-eqb (crc_of (take (length b - 4) b)) (crc_field_of b) other,
    ) refl

-- a fault and none at once
pub fault_and_none : (o : Option SectionFault) (fault : SectionFault) → o ≡ Some fault → o ≡ None → ⊥
fault_and_none o fault some none = cc

-- the last four bytes are the CRC of those before exactly where the whole divides to 0
own_crc : (b : List ℕ) → 4 ≤ length b → crc_of (take (length b - 4) b) ≡ crc_field_of b → crc_of b ≡ 0
own_crc b room same =
    let four : length (drop (length b - 4) b) ≡ 4 = omega (arith, length-drop (length b - 4) b) in
    ap crc_of (sym (take-append-drop (length b - 4) b)) ∙ crc_of-own (take (length b - 4) b) (drop (length b - 4) b) four (sym same)

field_crc : (b : List ℕ) → 4 ≤ length b → crc_of b ≡ 0 → crc_of (take (length b - 4) b) ≡ crc_field_of b
field_crc b room none =
    let four : length (drop (length b - 4) b) ≡ 4 = omega (arith, length-drop (length b - 4) b) in
    sym (crc_of-zero (take (length b - 4) b) (drop (length b - 4) b) four (ap crc_of (take-append-drop (length b - 4) b) ∙ none))

-- what a row without a broken rule keeps
head_there : (b : List ℕ) → first_broken b ≡ None → 3 ≤ length b
head_there b none =
    elim (cases_lt (length b) 3) [ inl few ↦ absurd (fault_and_none (first_broken b) _ (short_head-broken b few) none) | inr head ↦ head ]

valid_id : (b : List ℕ) → first_broken b ≡ None → table_id_of b ≢ 255
valid_id b none = λ stuffed. fault_and_none (first_broken b) _ (stuffing-broken b (head_there b none) stuffed) none

in_range : (b : List ℕ) → first_broken b ≡ None → section_length_of b ≤ 4093
in_range b none =
    elim (cases_lt 4093 (section_length_of b)) [
      | inl much ↦ absurd (fault_and_none (first_broken b) _ (too_long-broken b (head_there b none) (valid_id b none) much) none)
      | inr range ↦ range
    ]

whole : (b : List ℕ) → first_broken b ≡ None → length b ≡ 3 + section_length_of b
whole b none =
    elim (cases_lt (length b) (3 + section_length_of b)) [
      | inl few ↦ absurd (fault_and_none (first_broken b) _ (short-broken b (head_there b none) (valid_id b none) (in_range b none) few) none)
      | inr enough ↦
          elim (cases_lt (3 + section_length_of b) (length b)) [
            | inl many ↦ absurd (fault_and_none (first_broken b) _ (trailing-broken b (head_there b none) (valid_id b none) (in_range b none) many) none)
            | inr most ↦ omega arith
          ]
    ]

long_none : (b : List ℕ) → first_broken b ≡ None → is_long b ≡ true → first_broken_long b ≡ None
long_none b none form = sym (long_form-broken b (valid_id b none) (in_range b none) (whole b none) form) ∙ none

long_room : (b : List ℕ) → first_broken_long b ≡ None → 9 ≤ section_length_of b
long_room b none =
    elim (cases_lt (section_length_of b) 9) [ inl few ↦ absurd (fault_and_none (first_broken_long b) _ (short_long-broken b few) none) | inr room ↦ room ]

long_numbers : (b : List ℕ) → first_broken_long b ≡ None → number_of b ≤ last_number_of b
long_numbers b none =
    elim (cases_lt (last_number_of b) (number_of b)) [
      | inl above ↦ absurd (fault_and_none (first_broken_long b) _ (numbers-broken b (long_room b none) above) none)
      | inr within ↦ within
    ]

long_crc : (b : List ℕ) → first_broken_long b ≡ None → crc_of (take (length b - 4) b) ≡ crc_field_of b
long_crc b none =
    elim (cases_eq (crc_of (take (length b - 4) b)) (crc_field_of b)) [
      | inl same ↦ same
      | inr other ↦ absurd (fault_and_none (first_broken_long b) _ (bad_crc-broken b (long_room b none) (long_numbers b none) other) none)
    ]

-- a row of bytes without a broken rule is a valid section
pub valid_from_none : (b : List ℕ) → All (λ x. x < 256) b → first_broken b ≡ None → IsSection b
valid_from_none b bytes none =
    record {
      bytes = bytes;
      no_stuffing = valid_id b none;
      in_range = in_range b none;
      whole = whole b none;
      long = λ form. record {
        room = long_room b (long_none b none form);
        numbers = long_numbers b (long_none b none form);
        crc = own_crc b (long_size b none form) (long_crc b (long_none b none form));
      };
    }
  where
    long_size : (b : List ℕ) → first_broken b ≡ None → is_long b ≡ true → 4 ≤ length b
    long_size b none form = omega (arith, whole b none, long_room b (long_none b none form))

-- in a valid section no rule is broken
pub none_from_valid : (b : List ℕ) → IsSection b → first_broken b ≡ None
none_from_valid b valid =
    elim (cases_Bool (is_long b)) [
      | inl form ↦
          long_form-broken b valid.no_stuffing valid.in_range valid.whole form
          ∙ good_crc-broken b (valid.long form).room (valid.long form).numbers
          (field_crc b (omega (arith, valid.whole, (valid.long form).room)) (valid.long form).crc)
      | inr form ↦ short_form-broken b valid.no_stuffing valid.in_range valid.whole form
    ]
