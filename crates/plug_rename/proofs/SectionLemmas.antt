-- EIT sections of a service.
use Rattle.std.proofs.Common.{◌≡◌, ℕ, ◌<◌, ◌&&◌, ◌||◌, Bool, true, false, List, None, Some, refl, sym, ap, arith}
use Rattle.std.specs.Prelude.{if◌then◌else◌, nat_eq, nat_le, unwrap_or}
use Rattle.std.proofs.lemmas.Bool.{eqb-true, leb-true}
use Rattle.ts_section.specs.SectionFields.{extension_of, head_fields, head_of, is_long, table_id_of}
use Rattle.ts_section.specs.declared.long_head.LongHead.{LongHead}
use Rattle.ts_eit.specs.EitSections.{is_eit_id, is_of_service}

-- a section with a head is of the long form, and its fields are those of the head
pub of-head : (s : List ℕ) (head : LongHead) → head_of s ≡ Some head → (is_long s ≡ true) × (head_fields s ≡ head)
of-head s head e = by (is_long s) e
  where
    by : (b : Bool) → (if b then Some (head_fields s) else None) ≡ Some head → (b ≡ true) × (head_fields s ≡ head)
    by true e = (refl, ap (λ told. unwrap_or told (head_fields s)) e)
    by false e = cc

small : (id : ℕ) (a b c : Bool) → a ≡ nat_eq id 78 → c ≡ nat_le id 95 → (a || (b && c)) ≡ true → id < 255
small id true b c e f h = omega (arith, eqb-true id 78 (sym e))
small id false true true e f h = omega (arith, leb-true id 95 (sym f))
small id false true false e f h = cc
small id false false c e f h = cc

left_of : (a b : Bool) → (a && b) ≡ true → a ≡ true
left_of true b e = refl
left_of false b e = cc

right_of : (a b : Bool) → (a && b) ≡ true → b ≡ true
right_of true b e = e
right_of false b e = cc

-- an EIT section has a table_id below 255
pub eit-id : (service : ℕ) (s : List ℕ) (head : LongHead) → is_of_service service s ≡ true → head_of s ≡ Some head → head.table_id < 255
eit-id service s head e f =
    let both = right_of (is_long s) (is_eit_id (table_id_of s) && nat_eq (extension_of s) service) e in
    let id = small (table_id_of s) (nat_eq (table_id_of s) 78) (nat_le 80 (table_id_of s)) (nat_le (table_id_of s) 95) refl refl (left_of (is_eit_id (table_id_of s)) (nat_eq (extension_of s) service) both) in
    omega (arith, id, ap (λ h. h.table_id) (of-head s head f).1)
