-- Sections numbered one after another, and the contents of those of a table.
use Rattle.std.proofs.Common.{◌≡◌, ℕ, ◌+◌, ◌<◌, ◌≤◌, Bool, true, false, List, [], ◌∷◌, ◌++◌, length, drop, get_or, map, refl, sym, ap, ◌∙◌, arith, append_assoc, append-nil, Vec, Global}
use Rattle.std.specs.Prelude.{is_some, Ok, Option, Some, None, nat_le, nat_lt}
use Rattle.std.proofs.lemmas.Bool.{leb-true, ltb-true, le-ltb, and_parts}
use Rattle.std.proofs.lemmas.List.{drop_more, drop_all, map-append, length-map, get_or-map}
use Rattle.std.proofs.lemmas.List.Elements.{All-get_or}
use Rattle.ts_bits.specs.TaggedBody.{TaggedBody}
use Rattle.ts_section.specs.WrittenSection.{long_section}
use Rattle.ts_table_rows.specs.declared.table.TableHead.{TableHead}
use Rattle.ts_table_rows.specs.declared.filling.ThingRow.{ThingRow}
use Rattle.ts_table_rows.specs.TablePages.{ItemPage, TablePage, has_id}
use Rattle.ts_table_rows.specs.TableValues.{ItemHolding, BodyHolding}
use Rattle.ts_table_rows.specs.TableFitting.{values_fit, own_fit, items_fit, zeros_from, numbers_fit, head_fits, body_fits}
use Rattle.ts_table_rows.specs.TableSections.{own_thing, item_thing, things, head_with, numbered, numbers_of, sections_with}
use Rattle.ts_table_rows.specs.FilledRows.{AreSmall, thing_view, own_row, item_kind_row, kind_row}

abbrev pub rows_in : List (Vec ℕ Global) → List (List ℕ)
rows_in vs = map (λ row. row.items) vs

-- the bodies that are left
bodies_left : (bodies : List (Vec ℕ Global)) (i : ℕ) (v : Vec ℕ Global) → i < length bodies → v ≡ get_or bodies i v → rows_in (drop i bodies) ≡ v.items ∷ rows_in (drop (i + 1) bodies)
bodies_left bodies i v inside same = ap rows_in (drop_more bodies i v inside) ∙ sym (ap (λ x. x.items ∷ rows_in (drop (i + 1) bodies)) same)

pub numbers_go_on : (p : TablePage) (h : TableHead) (last number i : ℕ) (old new : List (List ℕ)) (s : List ℕ) (bodies : List (Vec ℕ Global)) (v : Vec ℕ Global) (whole : List (List ℕ)) → i < length bodies → v ≡ get_or bodies i v → new ≡ old ++ s ∷ [] → s ≡ long_section (head_with p h last number) v.items
    → old ++ numbered p h last number (rows_in (drop i bodies)) ≡ whole → new ++ numbered p h last (number + 1) (rows_in (drop (i + 1) bodies)) ≡ whole
unfolding numbered
numbers_go_on p h last number i old new s bodies v whole inside same is made so_far =
    let rest = numbered p h last (number + 1) (rows_in (drop (i + 1) bodies)) in
    ap (λ l. l ++ rest) is ∙ append_assoc old (s ∷ []) rest ∙ ap (λ x. old ++ x ∷ rest) made
    ∙ sym (ap (λ l. old ++ numbered p h last number l) (bodies_left bodies i v inside same)) ∙ so_far

pub numbers_end : (p : TablePage) (h : TableHead) (last number i : ℕ) (new : List (List ℕ)) (bodies : List (Vec ℕ Global)) (whole : List (List ℕ)) → length bodies ≤ i → new ++ numbered p h last number (rows_in (drop i bodies)) ≡ whole → new ≡ whole
unfolding numbered
numbers_end p h last number i new bodies whole all so_far =
    sym (append-nil new) ∙ sym (ap (λ l. new ++ numbered p h last number (rows_in l)) (drop_all i bodies all)) ∙ so_far

-- the last number leaves a number for each body
pub number_room : (keeps : Bool) (numbers : Option (ℕ × ℕ)) (count : ℕ) → numbers_fit keeps numbers ≡ true → 0 < count → (keeps ≡ true → count ≡ 1) → (numbers_of numbers count).0 + count ≤ (numbers_of numbers count).1 + 1
number_room false None count fit some one = omega arith
number_room false (Some n) count fit some one = cc
number_room true None count fit some one = cc
number_room true (Some n) count fit some one = omega (arith, one refl, leb-true n.0 n.1 (and_parts (nat_le n.0 n.1) (nat_lt n.1 256) fit).0)

-- the parts of a head that fits
pub record FitHead (p : TablePage) (h : TableHead) : Type 0 where
  pub id : has_id p.ids h.table_id ≡ true
  pub valid_id : h.table_id < 255
  pub extension : h.extension < 65536
  pub version : h.version < 32
  pub numbers : numbers_fit p.keeps_numbers h.numbers ≡ true

pub head_parts : (p : TablePage) (h : TableHead) → head_fits p h ≡ true → FitHead p h
head_parts p h fit =
    let a = and_parts (has_id p.ids h.table_id) _ fit in
    let b = and_parts (nat_lt h.table_id 255) _ a.1 in
    let c = and_parts (nat_lt h.extension 65536) _ b.1 in
    let d = and_parts (nat_lt h.version 32) _ c.1 in
    record { id = a.0; valid_id = ltb-true h.table_id 255 b.0; extension = ltb-true h.extension 65536 c.0; version = ltb-true h.version 32 d.0; numbers = d.1 }

-- the parts of a body that fits
pub record FitBody (p : TablePage) (b : BodyHolding) : Type 0 where
  pub values : values_fit p b.values ≡ true
  pub own : own_fit p.loop_form b.descriptors ≡ true
  pub items : items_fit p.items b.items ≡ true
  pub zeros : is_some (zeros_from p.one_zero false b.items) ≡ true

pub body_parts : (p : TablePage) (b : BodyHolding) → body_fits p b ≡ true → FitBody p b
body_parts p b fit =
    let a = and_parts (values_fit p b.values) _ fit in
    let c = and_parts (own_fit p.loop_form b.descriptors) _ a.1 in
    let d = and_parts (items_fit p.items b.items) _ c.1 in
    record { values = a.0; own = c.0; items = d.0; zeros = d.1 }

pub sections_made : (p : TablePage) (h : TableHead) (bodies : List (Vec ℕ Global)) (first last : ℕ) (made : List (List ℕ)) → length bodies ≤ 256 → first ≡ (numbers_of h.numbers (length bodies)).0 → last ≡ (numbers_of h.numbers (length bodies)).1
    → made ≡ numbered p h last first (rows_in bodies) → sections_with p h (rows_in bodies) ≡ Ok made
sections_made p h bodies first last made few first_is last_is is =
    let count : length (rows_in bodies) ≡ length bodies = length-map bodies (λ (b : Vec ℕ Global). b.items) in
    let test : nat_lt 256 (length bodies) ≡ false = le-ltb 256 (length bodies) few in
    rw (count, test) (ap Ok (ap (λ n. numbered p h n (numbers_of h.numbers (length bodies)).0 (rows_in bodies)) (sym last_is) ∙ ap (λ n. numbered p h last n (rows_in bodies)) (sym first_is) ∙ sym is))

pub small_at : (bodies : List (Vec ℕ Global)) (i : ℕ) (v : Vec ℕ Global) → AreSmall (rows_in bodies) → i < length bodies → v ≡ get_or bodies i v → length v.items ≤ 4084
small_at bodies i v small inside same =
    let here = All-get_or (λ row. length row ≤ 4084) (rows_in bodies) i [] (omega (arith, length-map bodies (λ (b : Vec ℕ Global). b.items))) small in
    omega (arith, ap length (get_or-map (λ (b : Vec ℕ Global). b.items) bodies i v [] inside), ap (λ (b : Vec ℕ Global). length b.items) same)

-- the things of a body as bytes
map-own : (i : Option ItemPage) (ds : List TaggedBody) → map own_row ds ≡ map (kind_row i) (map own_thing ds)
map-own i [] = refl
map-own i (d ∷ ds) = ap (λ l. own_row d ∷ l) (map-own i ds)

map-items : (i : Option ItemPage) (xs : List ItemHolding) → map (item_kind_row i) xs ≡ map (kind_row i) (map item_thing xs)
map-items i [] = refl
map-items i (x ∷ xs) = ap (λ l. item_kind_row i x ∷ l) (map-items i xs)

pub things_joined : (i : Option ItemPage) (b : BodyHolding) (own items all : List ThingRow) → all ≡ own ++ items → map thing_view own ≡ map own_row b.descriptors → map thing_view items ≡ map (item_kind_row i) b.items → map thing_view all ≡ map (kind_row i) (things b)
things_joined i b own items all is first second =
    ap (map thing_view) is ∙ map-append thing_view own items
    ∙ ap (λ l. l ++ map thing_view items) (first ∙ map-own i b.descriptors)
    ∙ ap (λ l. map (kind_row i) (map own_thing b.descriptors) ++ l) (second ∙ map-items i b.items)
    ∙ sym (map-append (kind_row i) (map own_thing b.descriptors) (map item_thing b.items))
