-- What was read is what is written, and of its form.
use Rattle.std.proofs.Common.{◌≡◌, ℕ, suc, zero, Bool, true, List, [], ◌∷◌, ◌++◌, length, take, refl, sym, ap, ◌∙◌, append_assoc}
use Rattle.std.specs.Prelude.{Some}
use Rattle.std.specs.List.{flat_map, list_all}
use Rattle.std.proofs.lemmas.Option.{same_Some}
use Rattle.ts_fields.specs.Bodies.{Page, Holding, held_by, items_exact, page_exact, page_fits, spell_page}
use Rattle.ts_fields.specs.Fitting.{fits}
use Rattle.ts_fields.specs.Layout.{Row, Held}
use Rattle.ts_fields.specs.Reading.{read_rows}
use Rattle.ts_fields.specs.SoundRows.{are_exact}
use Rattle.ts_fields.specs.Spelling.{spell_rows}
use Rattle.ts_groups.specs.Groups.{Group, chosen, grouped_exact, page_with}
use Rattle.ts_item_forms.specs.ItemForms.{AreOfForm, Form, FormedHolding, IsOfForm, form_exact, formed_exact, item_fits, own_page, page_by, read_each, read_formed, read_inner, read_item, spell_formed, spell_inner, spell_item}
use Rattle.ts_item_forms.proofs.LoopLemmas.{Written, inner_was, item_spelled, read_joins}
use Rattle.ts_item_forms.proofs.StepLemmas.{both, then_some}

-- the values of items of a form fit
pub all_of_form_fit : (f : Form) (xs : List (Page × Holding)) → AreOfForm f xs → list_all item_fits xs ≡ true
all_of_form_fit f [] all = refl
all_of_form_fit f (x ∷ xs) all = rw (all.0.fits, all_of_form_fit f xs all.1) refl

-- what the laws of groups say
abbrev pub FrontFirst : Type 0
FrontFirst = (a b : List Row) (from : List Bool) (y : List Held × List Bool) → read_rows (a ++ b) from ≡ Some y → (x : List Held × List Bool) × (read_rows a from ≡ Some x) × (take (held_by a) y.0 ≡ x.0)

abbrev pub ChosenExact : Type 0
ChosenExact = (p : Page) (groups : List Group) (values : List Held) → grouped_exact p groups ≡ true → page_exact (page_with p groups values) ≡ true

module _ (laws : Written) (front_first : FrontFirst) (chosen_exact : ChosenExact) where
  rows_exact : (f : Form) (values : List Held) → form_exact f ≡ true → are_exact (f.head ++ chosen f.groups values) ≡ true
  rows_exact f values exact =
      let groups = (both (grouped_exact (own_page f) f.groups) (items_exact f.inner) exact).0 in
      (both (are_exact (f.head ++ chosen f.groups values)) true (chosen_exact (own_page f) f.groups values groups)).0

  item_was : (f : Form) (from : List Bool) (x : (Page × Holding) × List Bool) → form_exact f ≡ true
      → read_item f from ≡ Some x → (from ≡ spell_item x.0 ++ x.1) × IsOfForm f x.0
  unfolding read_item
  item_was f from x exact is =
      then_some (read_rows f.head from) _ x is (λ first was later.
      then_some (read_rows (chosen f.groups first.0) first.1) _ x later (λ more had last.
      then_some (read_inner f.inner more.1) (λ inner. Some ((page_by f first.0, record { head = first.0 ++ more.0; items = inner.0 }), inner.1)) x last (λ inner got joins.
      let rows = f.head ++ chosen f.groups first.0 in
      let values = first.0 ++ more.0 in
      let h : Holding = record { head = values; items = inner.0 } in
      let all = read_joins f.head (chosen f.groups first.0) from first more was had in
      let x_is : ((page_by f first.0, h), inner.1) ≡ x = same_Some _ _ joins in
      let took = laws.rows rows from values more.1 (rows_exact f first.0 exact) all in
      let took_inner = inner_was laws f.inner more.1 inner (both (grouped_exact (own_page f) f.groups) (items_exact f.inner) exact).1 got in
      let front = front_first f.head (chosen f.groups first.0) from (values, more.1) all in
      let same : front.0 ≡ first = same_Some _ _ (sym front.1 ∙ was) in
      let are_first : first.0 ≡ take (held_by f.head) values = sym (front.2 ∙ ap (λ z. z.0) same) in
      let spelled : from ≡ spell_page (page_by f first.0) h ++ inner.1 =
      took.0 ∙ ap (λ l. spell_rows rows values ++ l) took_inner.0
      ∙ sym (append_assoc (spell_rows rows values) (spell_inner f.inner inner.0) inner.1)
      ∙ ap (λ l. l ++ inner.1) (sym (item_spelled f.name f.inner rows h)) in
      let fit : page_fits (page_by f first.0) h ≡ true = rw (took.1, took_inner.1) refl in
      let of_form : IsOfForm f (page_by f first.0, h) = record { own = ap (page_by f) are_first; fits = fit } in
      rw (← x_is) (spelled, of_form))))

  each_was : (most : ℕ) (f : Form) (from : List Bool) (xs : List (Page × Holding)) → form_exact f ≡ true
      → read_each most f from ≡ Some xs → (from ≡ flat_map spell_item xs) × AreOfForm f xs
  unfolding read_each
  each_was most f [] xs exact is = let none : [] ≡ xs = same_Some _ _ is in rw (← none) (refl, tt)
  each_was zero f (b ∷ bs) xs exact is = cc
  each_was (suc most) f (b ∷ bs) xs exact is =
      then_some (read_item f (b ∷ bs)) _ xs is (λ x was later.
      then_some (read_each most f x.1) (λ more. Some (x.0 ∷ more)) xs later (λ more had joins.
      let xs_is : x.0 ∷ more ≡ xs = same_Some _ _ joins in
      let one = item_was f (b ∷ bs) x exact was in
      let others = each_was most f x.1 more exact had in
      let spelled : b ∷ bs ≡ spell_item x.0 ++ flat_map spell_item more = one.0 ∙ ap (λ l. spell_item x.0 ++ l) others.0 in
      rw (← xs_is) (spelled, (one.1, others.1))))

  pub formed_was : (p : Page) (f : Form) (from : List Bool) (h : FormedHolding) → formed_exact p f ≡ true
      → read_formed p f from ≡ Some h
      → (from ≡ spell_formed p h) × (fits p.head h.head ≡ true) × AreOfForm f h.items
  unfolding read_formed
  formed_was p f from h exact is =
      then_some (read_rows p.head from) _ h is (λ head was later.
      then_some (read_each (length head.1) f head.1) (λ items. Some (record { head = head.0; items = items })) h later (λ items had joins.
      let h_is : record { head = head.0; items = items } ≡ h = same_Some _ _ joins in
      let parts = both (are_exact p.head) (form_exact f) exact in
      let took = laws.rows p.head from head.0 head.1 parts.0 was in
      let more = each_was (length head.1) f head.1 items parts.1 had in
      let spelled : from ≡ spell_rows p.head head.0 ++ flat_map spell_item items = took.0 ∙ ap (λ l. spell_rows p.head head.0 ++ l) more.0 in
      rw (← h_is) (spelled, took.1, more.1)))
