-- Entries of a PAT one after another.
use Rattle.std.proofs.Common.{◌≡◌, ℕ, zero, suc, ◌+◌, ◌<◌, ◌≤◌, Bool, true, false, List, [], ◌∷◌, length, drop, get_or, map, refl, sym, ap, ◌∙◌, arith}
use Rattle.std.specs.Prelude.{Option, Some, None, filter, find, not, nat_eq, option_to_list, if◌then◌else◌}
use Rattle.std.specs.List.{list_all}
use Rattle.std.proofs.lemmas.Bool.{and_from, and_parts, ne_eqb}
use Rattle.std.proofs.lemmas.List.{drop_more, drop_all}
use Rattle.ts_table_rows.specs.TableFitting.{item_fits}
use Rattle.ts_table_rows.specs.declared.table.TableItem.{TableItem}
use Rattle.ts_table_rows.specs.TableValues.{ItemHolding, item_held}
use Rattle.ts_table_pages.specs.PsiPages.{entry_page}
use Rattle.ts_psi.specs.PatTables.{entry_item, network_items, is_network, service_serves}

-- a test of all passes one
pub test_at : {Y W : Type 0} (t : W → Bool) (g : Y → W) (ys : List Y) (i : ℕ) (y : Y) → list_all t (map g ys) ≡ true → i < length ys → y ≡ get_or ys i y → t (g y) ≡ true
test_at t g [] i y all inside same = absurd (omega arith)
test_at t g (x ∷ ys) zero y all inside same = ap (λ z. t (g z)) same ∙ (and_parts (t (g x)) (list_all t (map g ys)) all).0
test_at t g (x ∷ ys) (suc i) y all inside same = test_at t g ys i y (and_parts (t (g x)) (list_all t (map g ys)) all).1 (omega arith) same

items_left : (items : List TableItem) (i : ℕ) (x : TableItem) → i < length items → x ≡ get_or items i x → map item_held (drop i items) ≡ item_held x ∷ map item_held (drop (i + 1) items)
items_left items i x inside same = ap (map item_held) (drop_more items i x inside) ∙ sym (ap (λ z. item_held z ∷ map item_held (drop (i + 1) items)) same)

-- the network entry is here
pub network_here : (items : List TableItem) (i : ℕ) (x : TableItem) (id pid : ℕ) (whole : Option ItemHolding) → i < length items → x ≡ get_or items i x → item_held x ≡ entry_item id pid → id ≡ 0 → find is_network (map item_held (drop i items)) ≡ whole → network_items (Some pid) ≡ option_to_list whole
network_here items i x id pid whole inside same held none so_far =
    let here : item_held x ≡ entry_item 0 pid = held ∙ ap (λ n. entry_item n pid) none in
    let found : find is_network (item_held x ∷ map item_held (drop (i + 1) items)) ≡ Some (entry_item 0 pid) = ap (λ y. find is_network (y ∷ map item_held (drop (i + 1) items))) here in
    ap option_to_list (sym found ∙ sym (ap (find is_network) (items_left items i x inside same)) ∙ so_far)

-- it is later
pub network_later : (items : List TableItem) (i : ℕ) (x : TableItem) (id pid : ℕ) (whole : Option ItemHolding) → i < length items → x ≡ get_or items i x → item_held x ≡ entry_item id pid → (id ≡ 0 → ⊥) → find is_network (map item_held (drop i items)) ≡ whole → find is_network (map item_held (drop (i + 1) items)) ≡ whole
network_later items i x id pid whole inside same held other so_far =
    let test : nat_eq id 0 ≡ false = ne_eqb id 0 other in
    let passed : find is_network (entry_item id pid ∷ map item_held (drop (i + 1) items)) ≡ find is_network (map item_held (drop (i + 1) items)) = rw test refl in
    sym passed ∙ sym (ap (λ y. find is_network (y ∷ map item_held (drop (i + 1) items))) held) ∙ sym (ap (find is_network) (items_left items i x inside same)) ∙ so_far

-- there is none
pub network_none : (items : List TableItem) (i : ℕ) (whole : Option ItemHolding) → length items ≤ i → find is_network (map item_held (drop i items)) ≡ whole → network_items None ≡ option_to_list whole
network_none items i whole all so_far = ap option_to_list (sym (ap (λ l. find is_network (map item_held l)) (drop_all i items all)) ∙ so_far)

-- the items of services, read as structs, have the same values
pub services_held : (items : List TableItem) → map item_held (filter (λ i. not (is_network (item_held i))) items) ≡ filter (λ x. not (is_network x)) (map item_held items)
services_held [] = refl
services_held (i ∷ items) = chosen (not (is_network (item_held i))) i (filter (λ i. not (is_network (item_held i))) items) (filter (λ x. not (is_network x)) (map item_held items)) (services_held items)
  where
    chosen : (b : Bool) (i : TableItem) (xs : List TableItem) (ys : List ItemHolding) → map item_held xs ≡ ys → map item_held (if b then i ∷ xs else xs) ≡ (if b then item_held i ∷ ys else ys)
    chosen true i xs ys so_far = ap (λ l. item_held i ∷ l) so_far
    chosen false i xs ys so_far = so_far

-- entries that are not network entries can be services
pub services_serve : (xs : List ItemHolding) → list_all (item_fits entry_page) xs ≡ true → list_all service_serves (filter (λ x. not (is_network x)) xs) ≡ true
services_serve [] all = refl
services_serve (x ∷ xs) all =
    let parts = and_parts (item_fits entry_page x) (list_all (item_fits entry_page) xs) all in
    one (is_network x) x (filter (λ x. not (is_network x)) xs) refl parts.0 (services_serve xs parts.1)
  where
    one : (b : Bool) (x : ItemHolding) (ys : List ItemHolding) → is_network x ≡ b → item_fits entry_page x ≡ true → list_all service_serves ys ≡ true → list_all service_serves (if not b then x ∷ ys else ys) ≡ true
    one true x ys is fit so_far = so_far
    one false x ys is fit so_far = and_from (service_serves x) (list_all service_serves ys) (and_from (item_fits entry_page x) (not (is_network x)) fit (ap not is)) so_far
