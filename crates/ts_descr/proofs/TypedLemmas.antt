-- Bodies of fields only and of items only.
use Rattle.std.proofs.Common.{◌≡◌, ℕ, true, List, [], ◌∷◌, refl, sym, ap, ◌∙◌}
use Rattle.std.specs.Prelude.{◌&&◌, Option, Some, None, option_map}
use Rattle.std.specs.List.{list_all}
use Rattle.std.proofs.lemmas.Option.{same_Some}
use Rattle.ts_fields.specs.Layout.{Row, Held}
use Rattle.ts_fields.specs.Fitting.{fits, fits_uncounted}
use Rattle.ts_fields.specs.Bodies.{Page, Holding, page_fits, page_fits_uncounted, items_fit, items_fit_uncounted}
use Rattle.ts_descr.specs.Descriptors.{items_alone}
use Rattle.std.proofs.Common.{Bool, false}

both : (a b : Bool) → (a && b) ≡ true → (a ≡ true) × (b ≡ true)
both true b h = (refl, h)
both false b h = cc

no_values : (values : List Held) → fits [] values ≡ true → values ≡ []
unfolding fits
no_values [] fit = refl
no_values (v ∷ vs) fit = cc

-- a body of items only has no fields
pub no_head : (p : Page) (h : Holding) → p.head ≡ [] → page_fits p h ≡ true → h.head ≡ []
no_head p h alone fit = no_values h.head (ap (λ rs. fits rs h.head) (sym alone) ∙ (both (fits p.head h.head) (items_fit p.items h.items) fit).0)

items_fit_so : (i : Option (List ℕ × List Row)) (rows : List Row) (items : List (List Held))
    → option_map (λ x. x.1) i ≡ Some rows → list_all (fits_uncounted rows) items ≡ true
    → items_fit_uncounted i items ≡ true
items_fit_so None rows items is all = cc
items_fit_so (Some x) rows items is all =
    let same : x.1 ≡ rows = same_Some _ _ is in ap (λ rs. list_all (fits_uncounted rs) items) same ∙ all

no_rows_fit : (rows : List Row) (values : List Held) → rows ≡ [] → values ≡ [] → fits_uncounted rows values ≡ true
unfolding fits_uncounted
no_rows_fit [] [] none empty = refl
no_rows_fit [] (v ∷ vs) none empty = cc
no_rows_fit (r ∷ rs) values none empty = cc

no_items_fit : (i : Option (List ℕ × List Row)) → i ≡ None → items_fit_uncounted i [] ≡ true
no_items_fit None none = refl
no_items_fit (Some x) none = cc

-- a body of fields only fits where its fields do
pub fields_fit : (p : Page) (rows : List Row) (h : Holding) → p.head ≡ rows → p.items ≡ None → h.items ≡ []
    → fits_uncounted rows h.head ≡ true → page_fits_uncounted p h ≡ true
fields_fit p rows h same none empty fit =
    rw (ap (λ rs. fits_uncounted rs h.head) same ∙ fit, empty, no_items_fit p.items none) refl

-- a body of items only fits where its items do
pub items_fit_alone : (p : Page) (rows : List Row) (h : Holding) → p.head ≡ [] → h.head ≡ []
    → option_map (λ x. x.1) p.items ≡ Some rows → list_all (fits_uncounted rows) h.items ≡ true
    → page_fits_uncounted p h ≡ true
items_fit_alone p rows h alone empty is all =
    rw (no_rows_fit p.head h.head alone empty, items_fit_so p.items rows h.items is all) refl

alone_by : (head : List Held) (mine items : List (List Held)) → head ≡ [] → items ≡ mine
    → (let x : Holding = record { head = []; items = items } in
    let y : Holding = record { head = head; items = mine } in x ≡ y)
alone_by head mine items none same = rw (none, same) refl

-- the values of a body of items only, by its parts
pub held_alone : (h : Holding) (items : List (List Held)) → h.head ≡ [] → items ≡ h.items → items_alone items ≡ h
held_alone h items none same = alone_by h.head h.items items none same

-- structs with the items of a body that was read
pub typed_so : {A : Type 0} (o : Option A) (view : A → List (List Held)) (h : Holding) (whole : Option Holding)
    → option_map view o ≡ Some h.items → h.head ≡ [] → Some h ≡ whole
    → option_map (λ v. items_alone (view v)) o ≡ whole
typed_so None view h whole is none read = cc
typed_so (Some v) view h whole is none read = ap Some (held_alone h (view v) none (same_Some _ _ is)) ∙ read
