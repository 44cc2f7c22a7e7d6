-- Bodies: a page and its bits determine each other.
use Rattle.std.proofs.Common.{◌≡◌, ℕ, ◌/◌, ◌<◌, ◌≤◌, Bool, true, false, List, [], ◌++◌, length, take, drop, length-append, refl, sym, ap, ◌∙◌, arith}
use Rattle.std.specs.Prelude.{Option, Some, None, IsTrue, ◌&&◌, not, is_none}
use Rattle.ts_fields.specs.Bits.{bits, bits_of}
use Rattle.ts_fields.specs.Layout.{Row}
use Rattle.ts_fields.specs.Reading.{read_rows, read_bytes}
use Rattle.ts_fields.specs.Spelling.{spell_rows}
use Rattle.ts_fields.specs.Bodies.{held_by, item_rows, read_counted, spell_around, spell_loop, items_exact, page_exact, Page, Holding, items_sound, place_sound, page_sound, page_fits, items_fit, spell_by, spell_items, spell_page, read_after, read_by, read_page}
use Rattle.ts_fields.specs.Fitting.{fits, are_bytes}
use Rattle.ts_fields.specs.SoundRows.{are_exact, is_open, rows_sound}
use Rattle.std.proofs.lemmas.Option.{same_Some}
use Rattle.ts_fields.proofs.ReadLemmas.{left_true, right_true}
use Rattle.ts_fields.proofs.BitLemmas.{length-bits_of}
use Rattle.ts_fields.proofs.AgainLemmas.{both, rows_again, bytes_again}
use Rattle.ts_fields.proofs.TakesLemmas.{rows_takes, rows_length, then_some}
use Rattle.std.proofs.lemmas.List.{take-append-drop}
use Rattle.std.specs.List.{flat_map}
use Rattle.ts_fields.proofs.SizeLemmas.{items_are_shaped}
use Rattle.ts_fields.proofs.LengthLemmas.{length-after}
use Rattle.ts_fields.proofs.LoopAgain.{around_again}
use Rattle.ts_fields.proofs.LoopLemmas.{counted_takes, counted_fits}
use Rattle.ts_fields.proofs.ItemLemmas.{after_takes, after_again, nothing_after, after_read_fit}

takes_by : (c : Option ℕ) (p : Page) (from : List Bool) (h : Holding) → page_exact p ≡ true
    → read_by c p from ≡ Some h → (from ≡ spell_by c p h) × (page_fits p h ≡ true)
takes_by None p from h exact is =
    let exacts = both (are_exact p.head) (items_exact p.items) exact in
    then_some (read_rows p.head from) _ h is (λ head was later.
    then_some (read_after p.items head.1) (λ items. Some (record { head = head.0; items = items })) h later (λ items had joins.
    let h_is : record { head = head.0; items = items } ≡ h = same_Some _ _ joins in
    let one = rows_takes p.head from head.0 head.1 exacts.0 was in
    let others = after_takes p.items head.1 items exacts.1 had in
    rw (← h_is) (one.0 ∙ ap (λ l. spell_rows p.head head.0 ++ l) others.0, rw (one.1, others.1) refl)))
takes_by (Some n) p from h exact is =
    let exacts = both (are_exact p.head) (items_exact p.items) exact in
    let took = counted_takes n p.items p.head from h exacts.0 exacts.1 is in
    (took.0, rw (took.1, took.2) refl)

-- a page and its bits determine each other
pub page_takes : (p : Page) (from : List Bool) (h : Holding) → page_exact p ≡ true
    → read_page p from ≡ Some h → (from ≡ spell_page p h) × (page_fits p h ≡ true)
unfolding read_page spell_page
page_takes p from h exact is = takes_by p.counted p from h exact is

again_counted : (n : ℕ) (i : Option (List ℕ × List Row)) (head : List Row) (h : Holding) → fits head h.head ≡ true
    → items_fit i h.items ≡ true → IsTrue (items_sound i) → IsTrue (rows_sound (take n head)) → IsTrue (rows_sound (drop n head))
    → IsTrue (not (is_open (take n head))) → IsTrue (not (is_none i))
    → length (spell_around (take n head) (item_rows i) (drop n head) h) ≤ 2040
    → read_counted n i head (spell_around (take n head) (item_rows i) (drop n head) h) ≡ Some h
again_counted n None head h fit items_are sound front back closed some few = cc
again_counted n (Some i) head h fit items_are sound front back closed some few =
    let whole = length-after (Some i) h.items (items_are_shaped (Some i) h.items items_are) sound in
    let flat = flat_map (spell_rows i.1) h.items in
    let last = spell_rows (drop n head) (drop (held_by (take n head)) h.head) in
    let sum = length-append (spell_rows (take n head) h.head) (spell_loop i.1 h.items ++ last) in
    let sum_two = length-append (spell_loop i.1 h.items) last in
    let sum_three = length-append (bits 8 (length flat / 8)) flat in
    let small : length flat < 2048 = omega (arith, sum, sum_two, sum_three, few) in
    let joined : fits (take n head ++ drop n head) h.head ≡ true = ap (λ l. fits l h.head) (take-append-drop n head) ∙ fit in
    around_again (take n head) i.1 (drop n head) h joined items_are (right_true _ _ (left_true _ _ front)) closed (right_true _ _ (left_true _ _ back)) sound whole small

again_by : (c : Option ℕ) (p : Page) (h : Holding) → (is_none c ≡ false → length (spell_by c p h) ≤ 2040)
    → IsTrue (rows_sound p.head) → IsTrue (items_sound p.items)
    → IsTrue (place_sound c p) → page_fits p h ≡ true → read_by c p (spell_by c p h) ≡ Some h
again_by (Some n) p h few rows items place fit =
    let parts = both (fits p.head h.head) (items_fit p.items h.items) fit in
    let front = take n p.head in
    let back = drop n p.head in
    let after : IsTrue (rows_sound back && (not (is_open front) && not (is_none p.items))) = right_true (rows_sound front) (rows_sound back && (not (is_open front) && not (is_none p.items))) place in
    let last : IsTrue (not (is_open front) && not (is_none p.items)) = right_true (rows_sound back) (not (is_open front) && not (is_none p.items)) after in
    again_counted n p.items p.head h parts.0 parts.1 items
    (left_true (rows_sound front) (rows_sound back && (not (is_open front) && not (is_none p.items))) place)
    (left_true (rows_sound back) (not (is_open front) && not (is_none p.items)) after)
    (left_true (not (is_open front)) (not (is_none p.items)) last) (right_true (not (is_open front)) (not (is_none p.items)) last) (few refl)
again_by None p h few rows items place fit =
    let parts = both (fits p.head h.head) (items_fit p.items h.items) fit in
    let head = rows_again p.head h.head (spell_items p.items h.items) parts.0 (right_true _ _ (left_true _ _ rows)) (nothing_after p.items h.items (is_open p.head) parts.1 place) in
    let after = after_again p.items h.items parts.1 items in
    rw (head, after) refl

pub page_again : (p : Page) (h : Holding) → (is_none p.counted ≡ false → length (spell_page p h) ≤ 2040)
    → IsTrue (page_sound p) → page_fits p h ≡ true → read_page p (spell_page p h) ≡ Some h
unfolding read_page spell_page
page_again p h few sound fit =
    again_by p.counted p h few (left_true _ _ (left_true _ _ sound)) (right_true _ _ (left_true _ _ sound)) (right_true _ _ sound) fit

fits_by : (c : Option ℕ) (p : Page) (from : List Bool) (h : Holding) → read_by c p from ≡ Some h
    → page_fits p h ≡ true
fits_by None p from h is =
    then_some (read_rows p.head from) _ h is (λ head was later.
    then_some (read_after p.items head.1) (λ items. Some (record { head = head.0; items = items })) h later (λ items had joins.
    let h_is : record { head = head.0; items = items } ≡ h = same_Some _ _ joins in
    let one = rows_length p.head from head.0 head.1 was in
    let others = after_read_fit p.items head.1 items had in
    rw (← h_is) (rw (one.1, others) refl)))
fits_by (Some n) p from h is = let took = counted_fits n p.items p.head from h is in rw (took.0, took.1) refl

-- what was read fits its page
pub read_fits : (p : Page) (from : List Bool) (h : Holding) → read_page p from ≡ Some h → page_fits p h ≡ true
unfolding read_page
read_fits p from h is = fits_by p.counted p from h is

-- bytes are equal where their bits are
pub same_bytes : (a b : List ℕ) → are_bytes a ≡ true → are_bytes b ≡ true → bits_of a ≡ bits_of b → a ≡ b
same_bytes a b fit fit_too same =
    let long : length a ≡ length b = omega (arith, ap length same, length-bits_of a, length-bits_of b) in
    let first : read_bytes (length a) (bits_of a ++ []) ≡ Some (a, []) = bytes_again a [] fit in
    let second : read_bytes (length b) (bits_of b ++ []) ≡ Some (b, []) = bytes_again b [] fit_too in
    ap (λ x. x.0) (same_Some _ _ (sym first ∙ ap (λ n. read_bytes n (bits_of a ++ [])) long ∙ ap (λ l. read_bytes (length b) (l ++ [])) same ∙ second))
