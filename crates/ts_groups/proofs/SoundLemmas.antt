-- Whichever groups are there, the fields that are there can be read and written.
use Rattle.std.proofs.Common.{◌≡◌, ◌+◌, ◌%◌, Bool, true, false, List, [], ◌∷◌, ◌++◌, refl, ap, ◌∙◌, arith, append-nil}
use Rattle.std.specs.Prelude.{◌&&◌, ◌||◌, not, nat_eq, if◌then◌else◌, IsTrue}
use Rattle.std.specs.List.{list_all}
use Rattle.std.proofs.lemmas.Bool.{eqb-true}
use Rattle.ts_fields.specs.Layout.{Row, Held}
use Rattle.ts_fields.specs.SoundRows.{are_exact, are_sound, ends_last, goes_to_end, is_exact, is_open, is_sound, rows_sound, widths}
use Rattle.ts_fields.specs.Bodies.{Page, page_exact, page_sound}
use Rattle.ts_groups.specs.Groups.{Group, chosen, grouped_exact, grouped_sound, groups_sound, is_there, no_groups, page_with}
use Rattle.ts_groups.proofs.StepLemmas.{all_both, both, neither, not_true}

ends_both : (a b : List Row) → is_open a ≡ false → ends_last b ≡ true → ends_last (a ++ b) ≡ true
ends_both [] b closed ends = ends
ends_both (r ∷ rs) b closed ends =
    let parts = neither (goes_to_end r.kind) (is_open rs) closed in
    rw (parts.0) (ends_both rs b parts.1 ends)

widths_both : (a b : List Row) → widths (a ++ b) ≡ widths a + widths b
widths_both [] b = omega arith
widths_both (r ∷ rs) b = omega (arith, widths_both rs b)

sound_both : (a b : List Row) → rows_sound a ≡ true → is_open a ≡ false → rows_sound b ≡ true → rows_sound (a ++ b) ≡ true
sound_both a b first closed second =
    let one = both (are_sound a && ends_last a) (nat_eq (widths a % 8) 0) first in
    let two = both (are_sound b && ends_last b) (nat_eq (widths b % 8) 0) second in
    let front = both (are_sound a) (ends_last a) one.0 in
    let back = both (are_sound b) (ends_last b) two.0 in
    let whole : widths (a ++ b) % 8 ≡ 0 = omega (arith, widths_both a b, eqb-true (widths a % 8) 0 one.1, eqb-true (widths b % 8) 0 two.1) in
    rw (all_both (λ r. is_sound r.kind) a b front.0 back.0, ends_both a b closed back.1, whole) refl

with_group : (there : Bool) (g : Group) (gs : List Group) (values : List Held) → rows_sound g.rows ≡ true
    → (no_groups gs || not (is_open g.rows)) ≡ true → rows_sound (chosen gs values) ≡ true
    → rows_sound ((if there then g.rows else []) ++ chosen gs values) ≡ true
with_group false g gs values first closed rest = rest
with_group true g [] values first closed rest = ap rows_sound (append-nil g.rows) ∙ first
with_group true g (n ∷ ns) values first closed rest =
    sound_both g.rows (chosen (n ∷ ns) values) first (not_true (is_open g.rows) closed) rest

groups_are_sound : (groups : List Group) (values : List Held) → groups_sound groups ≡ true
    → rows_sound (chosen groups values) ≡ true
groups_are_sound [] values is = refl
groups_are_sound (g ∷ gs) values is =
    let one = both (rows_sound g.rows) ((no_groups gs || not (is_open g.rows)) && groups_sound gs) is in
    let two = both (no_groups gs || not (is_open g.rows)) (groups_sound gs) one.1 in
    with_group (is_there g.when values) g gs values one.0 two.0 (groups_are_sound gs values two.1)

-- all fields that are there
pub chosen_rows_sound : (p : Page) (groups : List Group) (values : List Held) → grouped_sound p groups ≡ true
    → rows_sound (p.head ++ chosen groups values) ≡ true
chosen_rows_sound p groups values is =
    let one = both (rows_sound p.head) (not (is_open p.head) && groups_sound groups) is in
    let two = both (not (is_open p.head)) (groups_sound groups) one.1 in
    sound_both p.head (chosen groups values) one.0 (not_true (is_open p.head) two.0) (groups_are_sound groups values two.1)

-- each of them
pub chosen_each_sound : (p : Page) (groups : List Group) (values : List Held) → grouped_sound p groups ≡ true
    → are_sound (p.head ++ chosen groups values) ≡ true
chosen_each_sound p groups values is =
    let rows = p.head ++ chosen groups values in
    (both (are_sound rows) (ends_last rows) (both (are_sound rows && ends_last rows) (nat_eq (widths rows % 8) 0) (chosen_rows_sound p groups values is)).0).0

pub chosen_sound : (p : Page) (groups : List Group) (values : List Held) → IsTrue (grouped_sound p groups)
    → IsTrue (page_sound (page_with p groups values))
chosen_sound p groups values is = rw (chosen_rows_sound p groups values is) refl

groups_are_exact : (groups : List Group) (values : List Held) → list_all (λ g. are_exact g.rows) groups ≡ true
    → are_exact (chosen groups values) ≡ true
groups_are_exact [] values is = refl
groups_are_exact (g ∷ gs) values is =
    let parts = both (are_exact g.rows) (list_all (λ g. are_exact g.rows) gs) is in
    all_both (λ r. is_exact r.kind) (if is_there g.when values then g.rows else []) (chosen gs values)
    (exact_if (is_there g.when values) g.rows parts.0) (groups_are_exact gs values parts.1)
  where
    exact_if : (there : Bool) (rs : List Row) → are_exact rs ≡ true → are_exact (if there then rs else []) ≡ true
    exact_if true rs is = is
    exact_if false rs is = refl

pub chosen_exact : (p : Page) (groups : List Group) (values : List Held) → grouped_exact p groups ≡ true
    → page_exact (page_with p groups values) ≡ true
chosen_exact p groups values is =
    let parts = both (are_exact p.head) (list_all (λ g. are_exact g.rows) groups) is in
    rw (all_both (λ r. is_exact r.kind) p.head (chosen groups values) parts.0 (groups_are_exact groups values parts.1)) refl
