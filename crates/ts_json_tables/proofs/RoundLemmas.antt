-- A table that is shown is read again: its children.
use Rattle.std.proofs.Common.{◌≡◌, ℕ, Bool, true, false, List, [], ◌∷◌, ◌++◌, refl, ap, ◌∙◌, map, subst}
use Rattle.std.specs.Prelude.{◌||◌, All, Option, Some, None, Ok, Err, bytes_eq}
use Rattle.std.specs.List.{list_all}
use Rattle.std.proofs.lemmas.List.Elements.{All-head, All-tail}
use Rattle.std.proofs.lemmas.Slice.Eq.{bytes_eq-Decides}
use Rattle.serde_json.specs.Data.{Data, Members}
use Rattle.serde_json.specs.View.{items_of}
use Rattle.ts_bits.specs.TaggedBody.{TaggedBody, IsDescriptor}
use Rattle.ts_fields.specs.Bits.{bits_of}
use Rattle.ts_fields.specs.Fitting.{fits}
use Rattle.ts_jtree.specs.Elements.{members_of, name_of, nodes_at, nodes_of, no_children}
use Rattle.ts_jtree.specs.Faults.{Reading, ◌>>=◌}
use Rattle.ts_jtree.specs.Shown.{are_within, element_members, rows_show}
use Rattle.ts_shown_pages.specs.Extensions.{extension_named}
use Rattle.ts_shown_pages.specs.Pages as descrs
use Rattle.ts_json_descr.specs.DescrElements.{descr_shown, generic_name}
use Rattle.ts_json_descr.specs.DescrReading.{descr_read, read_by_name, read_extension}
use Rattle.ts_table_rows.specs.TableFitting.{item_fits, items_fit, none_there}
use Rattle.ts_table_rows.specs.TablePages.{ItemPage, TablePage}
use Rattle.ts_table_rows.specs.TableSections.{own_thing, item_thing, items_in, owns_in}
use Rattle.ts_table_rows.specs.TableValues.{ItemHolding}
use Rattle.ts_json_tables.specs.ValidTables.{items_within}
use Rattle.ts_json_tables.specs.TableElements.{described_shown, descrs_shown, item_shown, items_shown}
use Rattle.ts_json_tables.specs.TableReading.{has_own, parted, read_child, read_described, read_descr, read_each, read_item, read_named, read_own}
use Rattle.ts_json_tables.proofs.AgainLemmas.{AllRead, Laws, all_append, each_read, self_name}
use Rattle.ts_json_tables.proofs.ByteLemmas.{all_bytes, descr_told}
use Rattle.ts_json_tables.proofs.KnownLemmas.{ItemsFacts}
use Rattle.ts_json_tables.proofs.StepLemmas.{both, then_ok}

-- ---- descriptors

pub descr_again : Laws → (d : TaggedBody) → IsDescriptor d → read_descr (descr_shown d) ≡ Ok d
descr_again laws d s = descr_told laws.bytes (descr_shown d) d s.bytes (laws.descr d s.tag (all_bytes d.body s.bytes) s.room)

pub descrs_again : Laws → (ds : List TaggedBody) → All (λ d. IsDescriptor d) ds → AllRead read_descr (descrs_shown ds) ds
descrs_again laws [] all = tt
descrs_again laws (d ∷ ds) all =
    (descr_again laws d (All-head (λ x. IsDescriptor x) d ds all), descrs_again laws ds (All-tail (λ x. IsDescriptor x) d ds all))

-- ---- items

described_again : Laws → (described : Bool) (ds : List TaggedBody) → (described || none_there ds) ≡ true
    → All (λ d. IsDescriptor d) ds
    → (nodes_at (described_shown described ds) >>= λ nodes. read_described described nodes) ≡ Ok ds
unfolding read_described no_children
described_again laws true ds none all = each_read read_descr 0 (descrs_shown ds) ds (descrs_again laws ds all)
described_again laws false [] none all = refl
described_again laws false (d ∷ ds) none all = cc

then_with : {A B C : Type 0} (read : Reading A) (next : A → Reading B) (made : B → Reading C) (y : B)
    → (read >>= next) ≡ Ok y → (read >>= λ x. (next x >>= made)) ≡ made y
then_with (Ok x) next made y is = rw is refl
then_with (Err fault) next made y is = cc

pub item_again : Laws → (i : ItemPage) (x : ItemHolding) → rows_show i.rows ≡ true → item_fits i x ≡ true
    → are_within i.rows x.values ≡ true → All (λ d. IsDescriptor d) x.descriptors
    → read_item i (element_members i.rows i.name (described_shown i.described x.descriptors) x.values) ≡ Ok x
unfolding read_item nodes_of
item_again laws i x shows fit inside all =
    let parts = both (fits i.rows x.values) (i.described || none_there x.descriptors) fit in
    let nodes = described_shown i.described x.descriptors in
    rw (
      laws.keys i.rows i.name nodes x.values shows,
      laws.values i.rows i.name nodes x.values shows parts.0 inside,
      laws.children i.rows i.name nodes x.values shows,
    ) (then_with (nodes_at nodes) (read_described i.described) (λ ds. Ok (record { values = x.values; descriptors = ds })) x.descriptors (described_again laws i.described x.descriptors parts.1 all))

-- ---- children

child_item : Laws → (p : TablePage) (i : ItemPage) (x : ItemHolding) → p.items ≡ Some i → rows_show i.rows ≡ true
    → item_fits i x ≡ true → are_within i.rows x.values ≡ true → All (λ d. IsDescriptor d) x.descriptors
    → read_child p (item_shown i x) ≡ Ok (item_thing x)
unfolding read_child read_named
child_item laws p i x is shows fit inside all =
    rw (laws.name i.rows i.name (described_shown i.described x.descriptors) x.values shows, is, self_name i.name, item_again laws i x shows fit inside all) refl

-- the members and the name of an element that is read as a descriptor
record Called (value : Data) (y : ℕ × List Bool) : Type 0 where
  ms : Members
  called : List ℕ
  object : members_of value ≡ Ok ms
  named : name_of ms ≡ Ok called
  whole : read_by_name called ms ≡ Ok y

called_of : (value : Data) (y : ℕ × List Bool) → descr_read value ≡ Ok y → Called value y
unfolding descr_read
called_of value y is =
    then_ok (members_of value) _ y is (λ ms a1 b1.
    then_ok (name_of ms) _ y b1 (λ called a2 b2.
    record { ms = ms; called = called; object = a1; named = a2; whole = b2 }))

-- its name is not an item's
other_by : (b : Bool) (ms : Members) (name called : List ℕ) (y : ℕ × List Bool) → bytes_eq called name ≡ b
    → bytes_eq name generic_name ≡ false → descrs.page_named name ≡ None → extension_named name ≡ None
    → read_by_name called ms ≡ Ok y → bytes_eq called name ≡ false
other_by false ms name called y at own none apart is = at
other_by true ms name called y at own none apart is =
    let same : called ≡ name = (bytes_eq-Decides called name).0 at in
    absurd (never (subst (λ n. read_by_name n ms ≡ Ok y) same is))
  where
    refused : read_extension None ms ≡ Ok y → ⊥
    refused read = cc

    never : read_by_name name ms ≡ Ok y → ⊥
    never read = refused (rw (own, none, apart) at read)

own_again : Laws → (i : Option ItemPage) (d : TaggedBody) (ms : Members) (name : List ℕ) → IsDescriptor d
    → ((j : ItemPage) → i ≡ Some j → bytes_eq name j.name ≡ false)
    → read_named i true name ms (descr_shown d) ≡ Ok (own_thing d)
unfolding read_named read_own
own_again laws None d ms name s other = rw (descr_again laws d s) refl
own_again laws (Some i) d ms name s other = rw (other i refl, descr_again laws d s) refl

child_own : Laws → (p : TablePage) (d : TaggedBody) → ItemsFacts p.items → has_own p.loop_form ≡ true → IsDescriptor d
    → read_child p (descr_shown d) ≡ Ok (own_thing d)
unfolding read_child
child_own laws p d facts own s =
    let y : ℕ × List Bool = (d.tag, bits_of d.body) in
    let c = called_of (descr_shown d) y (laws.descr d s.tag (all_bytes d.body s.bytes) s.room) in
    rw (c.object, c.named, own) (own_again laws p.items d c.ms c.called s (λ j at.
    let f = subst ItemsFacts at facts in
    other_by (bytes_eq c.called j.name) c.ms j.name c.called y refl f.own f.other f.apart c.whole))

owns_again : Laws → (p : TablePage) (ds : List TaggedBody) → ItemsFacts p.items → (none_there ds ≡ false → has_own p.loop_form ≡ true)
    → All (λ d. IsDescriptor d) ds → AllRead (read_child p) (descrs_shown ds) (map own_thing ds)
owns_again laws p [] facts own all = tt
owns_again laws p (d ∷ ds) facts own all = (
  child_own laws p d facts (own refl) (All-head (λ x. IsDescriptor x) d ds all),
  owns_again laws p ds facts (λ some. own refl) (All-tail (λ x. IsDescriptor x) d ds all),
)

some_again : Laws → (p : TablePage) (i : ItemPage) (xs : List ItemHolding) → p.items ≡ Some i → rows_show i.rows ≡ true
    → list_all (item_fits i) xs ≡ true → list_all (λ x. are_within i.rows x.values) xs ≡ true
    → All (λ x. All (λ d. IsDescriptor d) x.descriptors) xs
    → AllRead (read_child p) (map (item_shown i) xs) (map item_thing xs)
some_again laws p i [] is shows fit inside all = tt
some_again laws p i (x ∷ xs) is shows fit inside all =
    let a = both (item_fits i x) (list_all (item_fits i) xs) fit in
    let b = both (are_within i.rows x.values) (list_all (λ y. are_within i.rows y.values) xs) inside in (
      child_item laws p i x is shows a.0 b.0 (All-head (λ y. All (λ d. IsDescriptor d) y.descriptors) x xs all),
      some_again laws p i xs is shows a.1 b.1 (All-tail (λ y. All (λ d. IsDescriptor d) y.descriptors) x xs all),
    )

items_again : Laws → (p : TablePage) (i : Option ItemPage) (xs : List ItemHolding) → p.items ≡ i → ItemsFacts i
    → items_fit i xs ≡ true → items_within i xs ≡ true → All (λ x. All (λ d. IsDescriptor d) x.descriptors) xs
    → AllRead (read_child p) (items_shown i xs) (map item_thing xs)
items_again laws p None [] is facts fit inside all = tt
items_again laws p None (x ∷ xs) is facts fit inside all = cc
items_again laws p (Some i) xs is facts fit inside all = some_again laws p i xs is facts.shows fit inside all

owns_parted : (ds : List TaggedBody) (xs : List ItemHolding) → owns_in (map own_thing ds ++ map item_thing xs) ≡ ds
owns_parted [] [] = refl
owns_parted [] (x ∷ xs) = owns_parted [] xs
owns_parted (d ∷ ds) xs = ap (λ l. d ∷ l) (owns_parted ds xs)

items_parted : (ds : List TaggedBody) (xs : List ItemHolding) → items_in (map own_thing ds ++ map item_thing xs) ≡ xs
items_parted [] [] = refl
items_parted [] (x ∷ xs) = ap (λ l. x ∷ l) (items_parted [] xs)
items_parted (d ∷ ds) xs = items_parted ds xs

-- the children of a table that are shown are its descriptors and these items
pub children_again : Laws → (p : TablePage) (ds : List TaggedBody) (xs : List ItemHolding) → ItemsFacts p.items
    → (none_there ds ≡ false → has_own p.loop_form ≡ true) → items_fit p.items xs ≡ true → items_within p.items xs ≡ true
    → All (λ d. IsDescriptor d) ds → All (λ x. All (λ d. IsDescriptor d) x.descriptors) xs
    → parted (read_each (read_child p) 0 (items_of (descrs_shown ds ++ items_shown p.items xs))) ≡ Ok (ds, xs)
children_again laws p ds xs facts own fit inside owns items =
    let things = map own_thing ds ++ map item_thing xs in
    let read = each_read (read_child p) 0 (descrs_shown ds ++ items_shown p.items xs) things
    (all_append (read_child p) (descrs_shown ds) (items_shown p.items xs) (map own_thing ds) (map item_thing xs)
    (owns_again laws p ds facts own owns) (items_again laws p p.items xs refl facts fit inside items)) in
    ap parted read ∙ ap (λ l. Ok (l, items_in things)) (owns_parted ds xs) ∙ ap (λ l. Ok (ds, l)) (items_parted ds xs)
