-- Tables that are read are valid.
use Rattle.std.proofs.Common.{◌≡◌, ℕ, ◌<◌, Bool, true, false, List, [], ◌∷◌, ◌++◌, length, refl, sym, ap, ◌∙◌, arith, subst}
use Rattle.std.specs.Prelude.{option_to_list, ◌&&◌, ◌||◌, Option, Some, None, Ok, nat_lt, nat_le, bytes_eq, codes, if◌then◌else◌}
use Rattle.std.specs.List.{list_all}
use Rattle.std.proofs.lemmas.Bool.{and_from, lt-ltb, leb-true}
use Rattle.serde_json.specs.Data.{Data, Items, Members}
use Rattle.serde_json.specs.Find.{get_member}
use Rattle.ts_bits.specs.TaggedBody.{TaggedBody}
use Rattle.ts_fields.specs.Fitting.{fits}
use Rattle.ts_fields.specs.Layout.{Row, Held, number, bytes}
use Rattle.ts_jtree.specs.declared.fault.JsonKind.TheVariants.{WrongKind}
use Rattle.ts_jtree.specs.Attributes.{attribute_of, holds_bytes, holds_number, data_attribute, hex_attribute, number_at, number_attribute, number_in, read_attributes, within}
use Rattle.ts_jtree.specs.Elements.{keys_known, members_of, name_of, named, no_children, nodes_of}
use Rattle.ts_jtree.specs.Faults.{or_refuse, ◌>>=◌}
use Rattle.ts_jtree.specs.Numbers.{number_of}
use Rattle.ts_jtree.specs.Shown.{are_within}
use Rattle.ts_table_rows.specs.declared.layout.LoopForm.{LoopForm}
use Rattle.ts_table_rows.specs.declared.layout.LoopForm.TheVariants.{Absent, Counted, ToEnd}
use Rattle.ts_table_rows.specs.TableFitting.{item_fits, items_fit, none_there, numbers_fit, own_fit}
use Rattle.ts_table_rows.specs.TablePages.{ItemPage, TablePage}
use Rattle.ts_table_rows.specs.TableSections.{Thing, own_thing, item_thing, items_in, owns_in}
use Rattle.ts_table_rows.specs.TableValues.{ItemHolding}
use Rattle.ts_json_tables.specs.ElementRows.{extension_row, is_eit_id, last_section_number_row, long_rows, payload_row, section_name, section_number_row, section_rows, short_rows, table_id_row, version_row, current_row, private_row}
use Rattle.ts_json_tables.specs.HeadReading.{is_eit_number, is_eit_value, only_number, names_eit, numbers_in_order, only_bytes, read_bytes, read_kept, read_number, read_numbers, read_truth}
use Rattle.ts_json_tables.specs.HeldTables.{LongHolding, TableValue}
use Rattle.ts_json_tables.specs.ValidTables.{IsTable, is_long, is_payload, items_within, numbers_kept}
use Rattle.ts_json_tables.specs.TableReading.{count_of, has_own, is_valid_count, kept_or_none, read_child, read_described, read_descr, read_each, read_item, read_long, read_long_head, read_named, read_own, read_section, read_short, sections_counted, with_payloads}
use Rattle.ts_json_tables.proofs.KnownLemmas.{ItemsPlain}
use Rattle.ts_json_tables.proofs.NumberLemmas.{number_bounded, tested}
use Rattle.ts_json_tables.proofs.ReadLemmas.{are_plain, each_all, each_count, read_good}
use Rattle.ts_json_tables.proofs.RowLemmas.{read_count}
use Rattle.ts_json_tables.proofs.StepLemmas.{both, same_ok, then_ok}

-- ---- numbers in a range, and bytes

pub first_of : {B : Type 0} (P : Type 0) (r : Row) (ms : Members) (made : List Held → B) (y : B)
    → (read_attributes (r ∷ []) ms >>= λ values. Ok (made values)) ≡ Ok y
    → ((values : List Held) → read_attributes (r ∷ []) ms ≡ Ok values → made values ≡ y → P) → P
first_of P r ms made y is goal =
    then_ok (read_attributes (r ∷ []) ms) _ y is (λ values was later. goal values was (same_ok _ _ later))

one_in_range : (range : ℕ × ℕ) (values : List Held) → length values ≡ 1 → fits (table_id_row range ∷ []) values ≡ true
    → are_within (table_id_row range ∷ []) values ≡ true
    → (nat_le range.0 (only_number values) && nat_le (only_number values) range.1) ≡ true
unfolding fits are_within
one_in_range range [] count fit inside = absurd (omega (arith, count))
one_in_range range (number m ∷ []) count fit inside = (both (nat_le range.0 m && nat_le m range.1) _ inside).0
one_in_range range (bytes b ∷ []) count fit inside = cc
one_in_range range (h ∷ g ∷ vs) count fit inside = absurd (omega (arith, count))

id_range : (range : ℕ × ℕ) (ms : Members) (n : ℕ) → read_number (table_id_row range) ms ≡ Ok n
    → (nat_le range.0 n && nat_le n range.1) ≡ true
unfolding read_number
id_range range ms n is =
    first_of ((nat_le range.0 n && nat_le n range.1) ≡ true) (table_id_row range) ms only_number n is (λ values was made.
    let good = read_good (table_id_row range ∷ []) ms values refl was in
    subst (λ k. (nat_le range.0 k && nat_le k range.1) ≡ true) made
    (one_in_range range values (read_count (table_id_row range ∷ []) ms values was) good.0 good.1))

any_id : (ms : Members) (n : ℕ) → read_number (table_id_row (0, 254)) ms ≡ Ok n → n < 255
any_id ms n is =
    let parts = both (nat_le 0 n) (nat_le n 254) (id_range (0, 254) ms n is) in
    omega (arith, leb-true n 254 parts.1)

pub data_small : (most : ℕ) (key : List ℕ) (ms : Members) (b : List ℕ)
    → data_attribute (Some (0, most)) key ms ≡ Ok b → nat_le (length b) most ≡ true
unfolding data_attribute
data_small most key ms b is =
    then_ok (hex_attribute key ms) _ b is (λ x was later.
    let parts = tested (nat_le 0 (length x) && nat_le (length x) most) x b _ later in
    subst (λ l. nat_le (length l) most ≡ true) parts.1 (both (nat_le 0 (length x)) (nat_le (length x) most) parts.0).1)

payload_small : (most : ℕ) (ms : Members) (b : List ℕ) → read_bytes (payload_row most) ms ≡ Ok b
    → is_payload most b ≡ true
unfolding read_bytes read_attributes attribute_of
payload_small most ms b is =
    first_of (nat_le (length b) most ≡ true) (payload_row most) ms only_bytes b is (λ values was made.
    then_ok (holds_bytes (data_attribute (Some (0, most)) (codes "payload") ms)) _ values was (λ v had joins.
    then_ok (data_attribute (Some (0, most)) (codes "payload") ms) _ v had (λ row a b1.
    let v_is : Some (bytes row) ≡ v = same_ok _ _ b1 in
    let values_is : option_to_list v ++ [] ≡ values = same_ok _ _ joins in
    let same : row ≡ b = ap (λ w. only_bytes (option_to_list w ++ [])) v_is ∙ ap only_bytes values_is ∙ made in
    subst (λ l. nat_le (length l) most ≡ true) same (data_small most (codes "payload") ms row a))))

-- ---- tables given by their bytes

pub short_valid : (ms : Members) (t : TableValue) → read_short ms ≡ Ok t → IsTable t
unfolding read_short
short_valid ms t is =
    then_ok (keys_known short_rows ms ms) _ t is (λ w a1 b1.
    then_ok (read_number (table_id_row (0, 254)) ms) _ t b1 (λ id a2 b2.
    then_ok (read_truth private_row ms) _ t b2 (λ own a3 b3.
    then_ok (read_bytes (payload_row 4093) ms) _ t b3 (λ payload a4 b4.
    then_ok (nodes_of ms) _ t b4 (λ nodes a5 b5.
    then_ok (no_children nodes) _ t b5 (λ none a6 b6.
    subst IsTable (same_ok _ t b6)
    (and_from (nat_lt id 255) (is_payload 4093 payload) (lt-ltb id 255 (any_id ms id a2)) (payload_small 4093 ms payload a4))))))))

section_small : (value : Data) (row : List ℕ) → read_section value ≡ Ok row → is_payload 4084 row ≡ true
unfolding read_section
section_small value row is =
    then_ok (members_of value) _ row is (λ ms a1 b1.
    then_ok (name_of ms) _ row b1 (λ n a2 b2.
    then_ok (named section_name n) _ row b2 (λ u a3 b3.
    then_ok (keys_known section_rows ms ms) _ row b3 (λ w a4 b4.
    then_ok (read_bytes (payload_row 4084) ms) _ row b4 (λ payload a5 b5.
    then_ok (nodes_of ms) _ row b5 (λ nodes a6 b6.
    then_ok (no_children nodes) _ row b6 (λ none a7 b7.
    subst (λ l. is_payload 4084 l ≡ true) (same_ok payload row b7) (payload_small 4084 ms payload a5))))))))

-- the table_id that is read is the one that was checked before
given_id : (o : Option Data) (ms : Members) (range : Option (ℕ × ℕ)) (key : List ℕ) (n : ℕ)
    → number_at None range 255 key o ≡ Ok n → is_eit_value o ≡ is_eit_id n
unfolding number_in
given_id None ms range key n is = cc
given_id (Some value) ms range key n is =
    then_ok (or_refuse (number_of value) key WrongKind) _ n is (λ m was later.
    let parts = tested (nat_le m 255 && within range m) m n _ later in
    go (number_of value) m was parts.1)
  where
    go : (o : Option ℕ) (m : ℕ) → or_refuse o key WrongKind ≡ Ok m → m ≡ n → is_eit_number o ≡ is_eit_id n
    go (Some k) m was same = ap is_eit_id (same_ok k m was ∙ same)
    go None m was same = cc

pub eit_same : (ms : Members) (n : ℕ) → read_number (table_id_row (0, 254)) ms ≡ Ok n → names_eit ms ≡ is_eit_id n
unfolding read_number read_attributes attribute_of number_attribute
eit_same ms n is =
    first_of (names_eit ms ≡ is_eit_id n) (table_id_row (0, 254)) ms only_number n is (λ values was made.
    then_ok (holds_number (number_attribute None (Some (0, 254)) 255 (codes "table_id") ms)) _ values was (λ v had joins.
    then_ok (number_attribute None (Some (0, 254)) 255 (codes "table_id") ms) _ v had (λ m a b1.
    let v_is : Some (number m) ≡ v = same_ok _ _ b1 in
    let values_is : option_to_list v ++ [] ≡ values = same_ok _ _ joins in
    let same : m ≡ n = ap (λ w. only_number (option_to_list w ++ [])) v_is ∙ ap only_number values_is ∙ made in
    given_id (get_member (codes "table_id") ms) ms (Some (0, 254)) (codes "table_id") m a ∙ ap is_eit_id same)))

pub kept_good : (kept : Bool) (ms : Members) (n : Option (ℕ × ℕ)) → read_kept kept ms ≡ Ok n → numbers_fit kept n ≡ true
unfolding read_kept read_numbers
kept_good false ms n is = ap (numbers_fit false) (sym (same_ok None n is))
kept_good true ms n is =
    then_ok (read_number section_number_row ms) _ n is (λ first a1 b1.
    then_ok (read_number last_section_number_row ms) _ n b1 (λ last a2 b2.
    then_ok (numbers_in_order first last) _ n b2 (λ both_numbers a3 b3.
    let parts = tested (nat_le first last) (first, last) both_numbers _ a3 in
    let small = number_bounded last_section_number_row ms last refl a2 in
    let good : numbers_fit true (Some (first, last)) ≡ true = and_from (nat_le first last) (nat_lt last 256) parts.0 (lt-ltb last 256 small) in
    subst (λ m. numbers_fit true m ≡ true) (ap Some parts.1 ∙ same_ok (Some both_numbers) n b3) good)))

numbers_good : (kept : Bool) (n : Option (ℕ × ℕ)) → numbers_fit kept n ≡ true → numbers_kept kept (kept_or_none n) ≡ true
numbers_good false None is = refl
numbers_good false (Some n) is = cc
numbers_good true None is = cc
numbers_good true (Some n) is = is

record HeadGood (ms : Members) (eit : Bool) (l : LongHolding) : Type 0 where
  version : l.version < 32
  id : l.table_id < 255
  given : names_eit ms ≡ is_eit_id l.table_id
  extension : l.extension < 65536
  numbers : numbers_kept eit l.numbers ≡ true

head_good : (eit : Bool) (ms : Members) (l : LongHolding) → read_long_head eit ms ≡ Ok l → HeadGood ms eit l
unfolding read_long_head
head_good eit ms l is =
    then_ok (read_number version_row ms) _ l is (λ version a1 b1.
    then_ok (read_truth current_row ms) _ l b1 (λ current a2 b2.
    then_ok (read_number (table_id_row (0, 254)) ms) _ l b2 (λ id a3 b3.
    then_ok (read_number (extension_row (codes "table_id_extension")) ms) _ l b3 (λ extension a4 b4.
    then_ok (read_truth private_row ms) _ l b4 (λ own a5 b5.
    then_ok (read_kept eit ms) _ l b5 (λ numbers a6 b6.
    subst (HeadGood ms eit) (same_ok _ l b6) (record {
      version = number_bounded version_row ms version refl a1;
      id = any_id ms id a3;
      given = eit_same ms id a3;
      extension = number_bounded (extension_row (codes "table_id_extension")) ms extension refl a4;
      numbers = numbers_good eit numbers (kept_good eit ms numbers a6);
    })))))))

counted_good : (eit : Bool) (nodes counted : Items) → sections_counted eit nodes ≡ Ok counted
    → is_valid_count eit (count_of counted) ≡ true
counted_good eit nodes counted is =
    let parts = tested (is_valid_count eit (count_of nodes)) nodes counted _ is in
    subst (λ i. is_valid_count eit (count_of i) ≡ true) parts.1 parts.0

long_by : (ms : Members) (l : LongHolding) (rows : List (List ℕ)) → HeadGood ms (names_eit ms) l
    → is_valid_count (names_eit ms) (length rows) ≡ true → list_all (is_payload 4084) rows ≡ true
    → is_long (with_payloads l rows) ≡ true
long_by ms l rows head count small =
    and_from (nat_lt l.version 32) _ (lt-ltb l.version 32 head.version)
    (and_from (nat_lt l.table_id 255) _ (lt-ltb l.table_id 255 head.id)
    (and_from (nat_lt l.extension 65536) _ (lt-ltb l.extension 65536 head.extension)
    (and_from (numbers_kept (is_eit_id l.table_id) l.numbers) _ (subst (λ b. numbers_kept b l.numbers ≡ true) head.given head.numbers)
    (and_from (is_valid_count (is_eit_id l.table_id) (length rows)) _ (subst (λ b. is_valid_count b (length rows) ≡ true) head.given count) small))))

pub long_valid : (ms : Members) (t : TableValue) → read_long ms ≡ Ok t → IsTable t
unfolding read_long
long_valid ms t is =
    then_ok (keys_known (long_rows (names_eit ms)) ms ms) _ t is (λ w a1 b1.
    then_ok (read_long_head (names_eit ms) ms) _ t b1 (λ l a2 b2.
    then_ok (nodes_of ms) _ t b2 (λ nodes a3 b3.
    then_ok (sections_counted (names_eit ms) nodes) _ t b3 (λ counted a4 b4.
    then_ok (read_each read_section 0 counted) _ t b4 (λ rows a5 b5.
    let count = each_count read_section 0 counted rows a5 in
    subst IsTable (same_ok _ t b5)
    (long_by ms l rows (head_good (names_eit ms) ms l a2)
    (subst (λ n. is_valid_count (names_eit ms) n ≡ true) (sym count) (counted_good (names_eit ms) nodes counted a4))
    (each_all read_section (is_payload 4084) 0 counted rows section_small a5)))))))

-- ---- tables of a page

pub thing_good : Option ItemPage → Bool → Thing → Bool
thing_good i own (own_thing d) = own
thing_good None own (item_thing x) = false
thing_good (Some i) own (item_thing x) = item_fits i x && are_within i.rows x.values

described_good : (described : Bool) (nodes : Items) (ds : List TaggedBody) → read_described described nodes ≡ Ok ds
    → (described || none_there ds) ≡ true
unfolding read_described
described_good true nodes ds is = refl
described_good false nodes ds is =
    then_ok (no_children nodes) _ ds is (λ none was later. ap none_there (sym (same_ok [] ds later)))

item_good : (i : ItemPage) (ms : Members) (x : ItemHolding) → are_plain i.rows ≡ true → read_item i ms ≡ Ok x
    → (item_fits i x && are_within i.rows x.values) ≡ true
unfolding read_item
item_good i ms x plain is =
    then_ok (keys_known i.rows ms ms) _ x is (λ w a1 b1.
    then_ok (read_attributes i.rows ms) _ x b1 (λ values a2 b2.
    then_ok (nodes_of ms) _ x b2 (λ nodes a3 b3.
    then_ok (read_described i.described nodes) _ x b3 (λ ds a4 b4.
    let good = read_good i.rows ms values plain a2 in
    subst (λ y. (item_fits i y && are_within i.rows y.values) ≡ true) (same_ok _ x b4)
    (and_from (fits i.rows values && (i.described || none_there ds)) (are_within i.rows values)
    (and_from (fits i.rows values) (i.described || none_there ds) good.0 (described_good i.described nodes ds a4)) good.1)))))

own_good : (i : Option ItemPage) (own : Bool) (value : Data) (x : Thing) → read_own own value ≡ Ok x → thing_good i own x ≡ true
unfolding read_own thing_good
own_good i false value x is = cc
own_good i true value x is =
    then_ok (read_descr value) _ x is (λ d was later. subst (λ y. thing_good i true y ≡ true) (same_ok (own_thing d) x later) refl)

named_good : (i : Option ItemPage) (own : Bool) (name : List ℕ) (ms : Members) (value : Data) (x : Thing) → ItemsPlain i
    → read_named i own name ms value ≡ Ok x → thing_good i own x ≡ true
unfolding read_named thing_good
named_good None own name ms value x plain is = own_good None own value x is
named_good (Some i) own name ms value x plain is = go (bytes_eq name i.name) is
  where
    go : (b : Bool) → (if b then (read_item i ms >>= λ y. Ok (item_thing y)) else read_own own value) ≡ Ok x → thing_good (Some i) own x ≡ true
    go true is =
        then_ok (read_item i ms) _ x is (λ y was later.
        subst (λ z. thing_good (Some i) own z ≡ true) (same_ok (item_thing y) x later) (item_good i ms y plain was))
    go false is = own_good (Some i) own value x is

pub child_good : (p : TablePage) (value : Data) (x : Thing) → ItemsPlain p.items → read_child p value ≡ Ok x
    → thing_good p.items (has_own p.loop_form) x ≡ true
unfolding read_child
child_good p value x plain is =
    then_ok (members_of value) _ x is (λ ms a1 b1.
    then_ok (name_of ms) _ x b1 (λ name a2 b2.
    named_good p.items (has_own p.loop_form) name ms value x plain b2))

owns_none : (i : Option ItemPage) (things : List Thing) → list_all (thing_good i false) things ≡ true → none_there (owns_in things) ≡ true
unfolding thing_good
owns_none i [] all = refl
owns_none i (own_thing d ∷ things) all = cc
owns_none i (item_thing x ∷ things) all =
    owns_none i things (both (thing_good i false (item_thing x)) (list_all (thing_good i false) things) all).1

pub own_good_fit : (form : LoopForm) (i : Option ItemPage) (things : List Thing) → list_all (thing_good i (has_own form)) things ≡ true
    → own_fit form (owns_in things) ≡ true
own_good_fit Absent i things all = owns_none i things all
own_good_fit Counted i things all = refl
own_good_fit ToEnd i things all = refl

items_none : (own : Bool) (things : List Thing) → list_all (thing_good None own) things ≡ true → items_in things ≡ []
unfolding thing_good
items_none own [] all = refl
items_none own (own_thing d ∷ things) all =
    items_none own things (both (thing_good None own (own_thing d)) (list_all (thing_good None own) things) all).1
items_none own (item_thing x ∷ things) all = cc

items_some : (i : ItemPage) (own : Bool) (things : List Thing) → list_all (thing_good (Some i) own) things ≡ true
    → (list_all (item_fits i) (items_in things) ≡ true) × (list_all (λ x. are_within i.rows x.values) (items_in things) ≡ true)
unfolding thing_good
items_some i own [] all = (refl, refl)
items_some i own (own_thing d ∷ things) all =
    items_some i own things (both (thing_good (Some i) own (own_thing d)) (list_all (thing_good (Some i) own) things) all).1
items_some i own (item_thing x ∷ things) all =
    let parts = both (item_fits i x && are_within i.rows x.values) (list_all (thing_good (Some i) own) things) all in
    let here = both (item_fits i x) (are_within i.rows x.values) parts.0 in
    let rest = items_some i own things parts.1 in (
      and_from (item_fits i x) (list_all (item_fits i) (items_in things)) here.0 rest.0,
      and_from (are_within i.rows x.values) (list_all (λ y. are_within i.rows y.values) (items_in things)) here.1 rest.1,
    )

-- items that fit their rows and are in their ranges
abbrev pub ItemsGood : Option ItemPage → List ItemHolding → Type 0
ItemsGood i xs = (items_fit i xs ≡ true) × (items_within i xs ≡ true)

pub items_good : (i : Option ItemPage) (own : Bool) (things : List Thing) → list_all (thing_good i own) things ≡ true
    → ItemsGood i (items_in things)
items_good None own things all = subst (ItemsGood None) (sym (items_none own things all)) (refl, refl)
items_good (Some i) own things all = items_some i own things all
