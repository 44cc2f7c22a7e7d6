-- Each item takes some bits, and items one after another.
use Rattle.std.proofs.Common.{◌≡◌, ℕ, suc, zero, ◌+◌, ◌*◌, ◌<◌, ◌≤◌, Bool, true, List, [], ◌∷◌, ◌++◌, length, refl, sym, ap, ◌∙◌, arith, append_assoc, append-nil}
use Rattle.std.specs.Prelude.{nat_lt, Option, Some, None}
use Rattle.std.proofs.lemmas.Bool.{ltb-true}
use Rattle.std.proofs.lemmas.Option.{same_Some}
use Rattle.ts_fields.specs.Bodies.{Page, Holding}
use Rattle.ts_fields.specs.Fitting.{fits, shaped}
use Rattle.ts_fields.specs.Layout.{Row, Held}
use Rattle.ts_fields.specs.Reading.{Fails, read_rows, ◌>>=◌}
use Rattle.ts_fields.specs.SoundRows.{widths}
use Rattle.ts_fields.specs.Spelling.{spell_rows}
use Rattle.ts_fields.specs.declared.reader.NotRead.{NotRead}
use Rattle.ts_fields.specs.declared.reader.NotRead.TheVariants as stops
use Rattle.ts_groups.specs.Groups.{chosen}
use Rattle.ts_item_forms.specs.ItemForms.{Form, page_by, read_each, read_inner, read_item}
use Rattle.ts_item_forms.proofs.LoopLemmas.{Parts, inner_shortens}
use Rattle.ts_item_forms.proofs.StepLemmas.{then_some}

-- what the laws of rows say of how many bits they take
pub record Lengths : Type 0 where
  pub read : (rs : List Row) (from : List Bool) (values : List Held) (rest : List Bool) → read_rows rs from ≡ Some (values, rest) → (length from ≡ length (spell_rows rs values) + length rest) × (fits rs values ≡ true)
  pub spelled : (rs : List Row) (values : List Held) → shaped rs values ≡ true → (more : ℕ) × (length (spell_rows rs values) ≡ widths rs + 8 * more)
  pub fit : (rs : List Row) (values : List Held) → fits rs values ≡ true → shaped rs values ≡ true

pub widths_both : (a b : List Row) → widths (a ++ b) ≡ widths a + widths b
widths_both [] b = omega arith
widths_both (r ∷ rs) b = omega (arith, widths_both rs b)

pub item_takes : Parts → Lengths → (f : Form) (from : List Bool) (x : (Page × Holding) × List Bool)
    → nat_lt 0 (widths f.head) ≡ true → read_item f from ≡ Some x → length x.1 < length from
unfolding read_item
item_takes laws long f from x some is =
    then_some (read_rows f.head from) _ x is (λ first was later.
    then_some (read_rows (chosen f.groups first.0) first.1) _ x later (λ more had last.
    then_some (read_inner f.inner more.1) (λ inner. Some ((page_by f first.0, record { head = first.0 ++ more.0; items = inner.0 }), inner.1)) x last (λ inner got joins.
    let x_is : ((page_by f first.0, record { head = first.0 ++ more.0; items = inner.0 }), inner.1) ≡ x = same_Some _ _ joins in
    let took = long.read f.head from first.0 first.1 was in
    let wide = long.spelled f.head first.0 (long.fit f.head first.0 took.1) in
    let further = long.read (chosen f.groups first.0) first.1 more.0 more.1 had in
    omega (arith, took.0, wide.1, further.0, ltb-true 0 (widths f.head) some, inner_shortens laws f.inner more.1 inner got, ap (λ z. length z.1) x_is))))

-- what the law of items says of how many bits they take
abbrev pub Takes : Form → Type 0
Takes f = (from : List Bool) (x : (Page × Holding) × List Bool) → read_item f from ≡ Some x → length x.1 < length from

-- items before, and items that are read
abbrev pub with_items : List (Page × Holding) → Option (List (Page × Holding)) → Option (List (Page × Holding))
with_items front read = read >>= λ more. Some (front ++ more)

same_next : {A B : Type 0} (r : Option A) (f g : A → Option B) → ((x : A) → r ≡ Some x → f x ≡ g x)
    → (r >>= f) ≡ (r >>= g)
same_next None f g same = refl
same_next (Some x) f g same = same x refl

-- more turns than bits change nothing
same_turns : (m n : ℕ) (f : Form) (from : List Bool) → Takes f → length from ≤ m → length from ≤ n
    → read_each m f from ≡ read_each n f from
unfolding read_each
same_turns m n f [] takes long wide = refl
same_turns zero n f (b ∷ bs) takes long wide = absurd (omega arith)
same_turns (suc m) zero f (b ∷ bs) takes long wide = absurd (omega arith)
same_turns (suc m) (suc n) f (b ∷ bs) takes long wide =
    same_next (read_item f (b ∷ bs)) _ _ (λ x was.
    let fewer : length x.1 < length (b ∷ bs) = takes (b ∷ bs) x was in
    ap (λ items. items >>= λ more. Some (x.0 ∷ more)) (same_turns m n f x.1 takes (omega arith) (omega arith)))

items_more : (front : List (Page × Holding)) (x : Page × Holding) (read : Option (List (Page × Holding)))
    → with_items front (read >>= λ more. Some (x ∷ more)) ≡ with_items (front ++ x ∷ []) read
items_more front x None = refl
items_more front x (Some more) = ap Some (sym (append_assoc front (x ∷ []) more))

pub items_go_on : (front : List (Page × Holding)) (f : Form) (from : List Bool) (x : Page × Holding) (after : List Bool)
    (whole : Option (List (Page × Holding))) → Takes f → read_item f from ≡ Some (x, after)
    → with_items front (read_each (length from) f from) ≡ whole
    → with_items (front ++ x ∷ []) (read_each (length after) f after) ≡ whole
unfolding read_each
items_go_on front f [] x after whole takes is so_far = let fewer = takes [] (x, after) is in absurd (omega arith)
items_go_on front f (b ∷ bs) x after whole takes is so_far =
    let fewer : length after < length (b ∷ bs) = takes (b ∷ bs) (x, after) is in
    let e = rw is at so_far in
    ap (with_items (front ++ x ∷ [])) (same_turns (length after) (length bs) f after takes (omega arith) (omega arith))
    ∙ sym (items_more front x (read_each (length bs) f after)) ∙ e

pub items_stop : (stop : NotRead) (front : List (Page × Holding)) (f : Form) (from : List Bool)
    (whole : Option (List (Page × Holding))) → (length from ≡ 0 → ⊥)
    → with_items front (read_each (length from) f from) ≡ whole → Fails stop (read_item f from) → Fails stop whole
unfolding read_each
items_stop stops.NoMemory front f from whole some so_far is = tt
items_stop stops.Outside front f [] whole some so_far is = absurd (some refl)
items_stop stops.Outside front f (b ∷ bs) whole some so_far is = sym so_far ∙ rw is refl

pub items_done : (front : List (Page × Holding)) (f : Form) (from : List Bool) (whole : Option (List (Page × Holding)))
    → length from ≡ 0 → with_items front (read_each (length from) f from) ≡ whole → whole ≡ Some front
unfolding read_each
items_done front f [] whole none so_far = sym so_far ∙ ap Some (append-nil front)
items_done front f (b ∷ bs) whole none so_far = absurd (omega arith)
