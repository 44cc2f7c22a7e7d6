-- Whatever fields an item has, its page can be read and written.
use Rattle.std.proofs.Common.{◌≡◌, ◌%◌, ℕ, Bool, true, false, List, [], ◌∷◌, ◌++◌, length, take, drop, refl, arith}
use Rattle.std.specs.Prelude.{◌&&◌, not, nat_eq, nat_lt, Option, Some, None, IsTrue, if◌then◌else◌}
use Rattle.std.proofs.lemmas.List.{drop_all, take_all}
use Rattle.ts_fields.specs.Bodies.{Page, items_sound, page_sound, place_sound}
use Rattle.ts_fields.specs.Layout.{Row, Held}
use Rattle.ts_fields.specs.SoundRows.{are_sound, ends_last, goes_to_end, is_open, is_sound, rows_sound, widths}
use Rattle.ts_groups.specs.Groups.{Group, chosen, grouped_sound, groups_sound, is_there, page_with}
use Rattle.ts_item_forms.specs.ItemForms.{Form, all_closed, count_before, form_sound, own_page, page_by}
use Rattle.ts_item_forms.proofs.StepLemmas.{all_second, both, neither, not_true}

-- what the law of groups says
abbrev pub ChosenSound : Type 0
ChosenSound = (p : Page) (groups : List Group) (values : List Held) → IsTrue (grouped_sound p groups) → IsTrue (page_sound (page_with p groups values))

closed_both : (a b : List Row) → is_open a ≡ false → is_open b ≡ false → is_open (a ++ b) ≡ false
closed_both [] b first second = second
closed_both (r ∷ rs) b first second =
    let parts = neither (goes_to_end r.kind) (is_open rs) first in
    rw (parts.0, closed_both rs b parts.1 second) refl

closed_if : (there : Bool) (rs : List Row) → is_open rs ≡ false → is_open (if there then rs else []) ≡ false
closed_if true rs is = is
closed_if false rs is = refl

closed_chosen : (groups : List Group) (values : List Held) → all_closed groups ≡ true → is_open (chosen groups values) ≡ false
closed_chosen [] values is = refl
closed_chosen (g ∷ gs) values is =
    let parts = both (not (is_open g.rows)) (all_closed gs) is in
    closed_both (if is_there g.when values then g.rows else []) (chosen gs values)
    (closed_if (is_there g.when values) g.rows (not_true _ parts.0)) (closed_chosen gs values parts.1)

pub record SoundItem (f : Form) (front : List Held) : Type 0 where
  pub rows : rows_sound (f.head ++ chosen f.groups front) ≡ true
  pub closed : is_open (f.head ++ chosen f.groups front) ≡ false
  pub inner : items_sound f.inner ≡ true
  pub some : nat_lt 0 (widths f.head) ≡ true

pub sound_item : ChosenSound → (f : Form) (front : List Held) → form_sound f ≡ true → SoundItem f front
sound_item chosen_sound f front is =
    let one = both (grouped_sound (own_page f) f.groups) (all_closed f.groups && (items_sound f.inner && nat_lt 0 (widths f.head))) is in
    let two = both (all_closed f.groups) (items_sound f.inner && nat_lt 0 (widths f.head)) one.1 in
    let three = both (items_sound f.inner) (nat_lt 0 (widths f.head)) two.1 in
    let rows = f.head ++ chosen f.groups front in
    let own = both (rows_sound f.head) (not (is_open f.head) && groups_sound f.groups) one.0 in
    let closed = both (not (is_open f.head)) (groups_sound f.groups) own.1 in
    record {
      rows = (both (rows_sound rows) true (both (rows_sound rows && true) true (chosen_sound (own_page f) f.groups front one.0)).0).0;
      closed = closed_both f.head (chosen f.groups front) (not_true _ closed.0) (closed_chosen f.groups front two.0);
      inner = three.0;
      some = three.1;
    }

-- the page of an item with these fields
sound_page : (name : List ℕ) (inner : Option (List ℕ × List Row)) (rs : List Row) → rows_sound rs ≡ true → is_open rs ≡ false
    → items_sound inner ≡ true
    → page_sound (record { tag = 0; name = name; head = rs; items = inner; counted = count_before inner rs }) ≡ true
sound_page name None rs rows closed sound = rw rows refl
sound_page name (Some i) rs rows closed sound =
    let all : take (length rs) rs ≡ rs = take_all (length rs) rs (omega arith) in
    let none : drop (length rs) rs ≡ [] = drop_all (length rs) rs (omega arith) in
    rw (all, none, rows, closed, sound) refl

-- so can the fields that are there by the values of the first ones
pub further_sound : (f : Form) (front : List Held) → page_sound (page_by f front) ≡ true → are_sound (chosen f.groups front) ≡ true
further_sound f front is =
    let rows = f.head ++ chosen f.groups front in
    let one = both (rows_sound rows && items_sound f.inner) (place_sound (page_by f front).counted (page_by f front)) is in
    let two = both (rows_sound rows) (items_sound f.inner) one.0 in
    let three = both (are_sound rows && ends_last rows) (nat_eq (widths rows % 8) 0) two.0 in
    let four = both (are_sound rows) (ends_last rows) three.0 in
    all_second (λ (r : Row). is_sound r.kind) f.head (chosen f.groups front) four.0

-- the first fields of each item take some bits
pub takes_some : (f : Form) → form_sound f ≡ true → nat_lt 0 (widths f.head) ≡ true
takes_some f is =
    let one = both (grouped_sound (own_page f) f.groups) (all_closed f.groups && (items_sound f.inner && nat_lt 0 (widths f.head))) is in
    let two = both (all_closed f.groups) (items_sound f.inner && nat_lt 0 (widths f.head)) one.1 in
    (both (items_sound f.inner) (nat_lt 0 (widths f.head)) two.1).1

pub item_sound : ChosenSound → (f : Form) (front : List Held) → IsTrue (form_sound f) → IsTrue (page_sound (page_by f front))
item_sound chosen_sound f front is =
    let it = sound_item chosen_sound f front is in
    sound_page f.name f.inner (f.head ++ chosen f.groups front) it.rows it.closed it.inner
