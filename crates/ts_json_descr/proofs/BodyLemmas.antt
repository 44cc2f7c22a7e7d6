-- What is read from an element has the shape that its rows ask for, and how large it is.
use Rattle.std.proofs.Common.{◌≡◌, ℕ, ◌+◌, ◌*◌, ◌<◌, ◌≤◌, Bool, true, false, List, [], ◌∷◌, ◌++◌, length, refl, sym, ap, ◌∙◌, arith, append-nil}
use Rattle.std.specs.Prelude.{IsTrue, Option, Some, None, Ok, Err, option_to_list, nat_lt, nat_le, ◌&&◌, if◌then◌else◌}
use Rattle.std.specs.List.{list_all}
use Rattle.std.proofs.lemmas.Bool.{lt-ltb, leb-true}
use Rattle.serde_json.specs.Data.{Data, Items, no_items, item, Members}
use Rattle.serde_json.specs.Find.{get_member}
use Rattle.ts_fields.specs.Bits.{bits_of}
use Rattle.ts_fields.specs.Bodies.{Page, Holding, all_shaped, items_shaped, page_shaped, page_sound, spell_page}
use Rattle.ts_fields.specs.Fitting.{shaped}
use Rattle.ts_fields.specs.Layout.{Row, Held, number, bytes}
use Rattle.ts_fields.specs.Spelling.{spell_rows}
use Rattle.ts_groups.specs.Groups.{fields_alone, values_alone}
use Rattle.ts_item_forms.specs.ItemForms.{Form, FormedHolding, form_sound, formed_shaped, is_writable, page_by, spell_formed}
use Rattle.ts_jtree.specs.declared.fault.JsonKind.TheVariants.{OutOfRange}
use Rattle.ts_jtree.specs.declared.fault.JsonFault.{JsonFault}
use Rattle.ts_jtree.specs.Attributes.{attribute_of, data_attribute, hex_attribute, holds_bytes, holds_number, number_at, number_attribute, number_in, read_attributes, within}
use Rattle.ts_jtree.specs.Elements.{keys_known, members_of, name_key, name_of, named, no_children, nodes_of, read_element}
use Rattle.ts_jtree.specs.Faults.{at_child, or_refuse, refuse, ◌>>=◌}
use Rattle.ts_jtree.specs.Numbers.{number_of}
use Rattle.ts_json_descr.specs.DescrElements.{generic_page, generic_rows}
use Rattle.ts_json_descr.specs.DescrReading.{are_tagged, read_children, read_formed, read_formed_holding, read_formed_item, read_formed_items, read_holding, read_item, read_items, read_typed, sized}
use Rattle.ts_json_descr.proofs.StepLemmas.{both, child_ok, not_more, same_ok, then_ok}

-- what the law of attributes says, by the contract of the crate below
abbrev pub Shapes : Type 0
Shapes = (rs : List Row) (ms : Members) (values : List Held) → read_attributes rs ms ≡ Ok values → shaped rs values ≡ true

element_shaped : Shapes → (name : List ℕ) (rs : List Row) (value : Data) (x : List Held × Items)
    → read_element name rs value ≡ Ok x → shaped rs x.0 ≡ true
unfolding read_element
element_shaped shapes name rs value x is =
    then_ok (members_of value) _ x is (λ ms a1 b1.
    then_ok (name_of ms) _ x b1 (λ n a2 b2.
    then_ok (named name n) _ x b2 (λ u a3 b3.
    then_ok (keys_known rs ms ms) _ x b3 (λ w a4 b4.
    then_ok (read_attributes rs ms) _ x b4 (λ values a5 b5.
    then_ok (nodes_of ms) _ x b5 (λ nodes a6 b6.
    let e : (values, nodes) ≡ x = same_ok _ _ b6 in
    rw (← e) (shapes rs ms values a5)))))))

item_shaped : Shapes → (i : List ℕ × List Row) (value : Data) (values : List Held) → read_item i value ≡ Ok values
    → shaped i.1 values ≡ true
unfolding read_item
item_shaped shapes i value values is =
    then_ok (read_element i.0 i.1 value) _ values is (λ x was later.
    then_ok (no_children x.1) _ values later (λ none had joins.
    let e : x.0 ≡ values = same_ok _ _ joins in
    rw (← e) (element_shaped shapes i.0 i.1 value x was)))

items_are_shaped : Shapes → (i : List ℕ × List Row) (place : ℕ) (nodes : Items) (items : List (List Held))
    → read_items i place nodes ≡ Ok items → all_shaped i.1 items ≡ true
unfolding read_items
items_are_shaped shapes i place no_items items is = let e : [] ≡ items = same_ok _ _ is in rw (← e) refl
items_are_shaped shapes i place (item value more) items is =
    then_ok (at_child place (read_item i value)) _ items is (λ x was later.
    then_ok (read_items i (place + 1) more) _ items later (λ others had joins.
    let e : x ∷ others ≡ items = same_ok _ _ joins in
    let one = item_shaped shapes i value x (child_ok place _ x was) in
    let rest = items_are_shaped shapes i (place + 1) more others had in
    rw (← e) (rw (one, rest) refl)))

children_shaped : Shapes → (i : Option (List ℕ × List Row)) (nodes : Items) (items : List (List Held))
    → read_children i nodes ≡ Ok items → items_shaped i items ≡ true
unfolding read_children
children_shaped shapes None nodes items is = refl
children_shaped shapes (Some i) nodes items is = items_are_shaped shapes i 0 nodes items is

pub holding_shaped : Shapes → (p : Page) (ms : Members) (h : Holding) → read_holding p ms ≡ Ok h
    → page_shaped p h ≡ true
unfolding read_holding
holding_shaped shapes p ms h is =
    then_ok (keys_known p.head ms ms) _ h is (λ w a1 b1.
    then_ok (read_attributes p.head ms) _ h b1 (λ head a2 b2.
    then_ok (nodes_of ms) _ h b2 (λ nodes a3 b3.
    then_ok (read_children p.items nodes) _ h b3 (λ items a4 b4.
    let e : record { head = head; items = items } ≡ h = same_ok _ _ b4 in
    rw (← e) (rw (shapes p.head ms head a2, children_shaped shapes p.items nodes items a4) refl)))))

pub fields_shaped : Shapes → (p : Page) (rs : List Row) (ms : Members) (values : List Held)
    → read_holding (fields_alone p rs) ms ≡ Ok (values_alone values) → shaped rs values ≡ true
fields_shaped shapes p rs ms values is =
    (both (shaped rs values) true (holding_shaped shapes (fields_alone p rs) ms (values_alone values) is)).0

-- ---- items of a form

-- what the law of items says, by the contract of the crate below
abbrev pub ItemSound : Type 0
ItemSound = (f : Form) (front : List Held) → IsTrue (form_sound f) → IsTrue (page_sound (page_by f front))

formed_item_writable : Shapes → ItemSound → (f : Form) (value : Data) (x : Page × Holding) → IsTrue (form_sound f)
    → read_formed_item f value ≡ Ok x → is_writable x ≡ true
unfolding read_formed_item
formed_item_writable shapes sounds f value x sound is =
    then_ok (members_of value) _ x is (λ ms a1 b1.
    then_ok (name_of ms) _ x b1 (λ n a2 b2.
    then_ok (named f.name n) _ x b2 (λ u a3 b3.
    then_ok (read_attributes f.head ms) _ x b3 (λ first a4 b4.
    then_ok (read_holding (page_by f first) ms) _ x b4 (λ h a5 b5.
    let e : (page_by f first, h) ≡ x = same_ok _ _ b5 in
    rw (← e) (rw (sounds f first sound, holding_shaped shapes (page_by f first) ms h a5) refl))))))

formed_items_writable : Shapes → ItemSound → (f : Form) (place : ℕ) (nodes : Items) (xs : List (Page × Holding))
    → IsTrue (form_sound f) → read_formed_items f place nodes ≡ Ok xs → list_all is_writable xs ≡ true
unfolding read_formed_items
formed_items_writable shapes sounds f place no_items xs sound is = let e : [] ≡ xs = same_ok _ _ is in rw (← e) refl
formed_items_writable shapes sounds f place (item value more) xs sound is =
    then_ok (at_child place (read_formed_item f value)) _ xs is (λ x was later.
    then_ok (read_formed_items f (place + 1) more) _ xs later (λ others had joins.
    let e : x ∷ others ≡ xs = same_ok _ _ joins in
    let one = formed_item_writable shapes sounds f value x sound (child_ok place _ x was) in
    let rest = formed_items_writable shapes sounds f (place + 1) more others sound had in
    rw (← e) (rw (one, rest) refl)))

pub formed_is_shaped : Shapes → ItemSound → (p : Page) (f : Form) (ms : Members) (h : FormedHolding) → IsTrue (form_sound f)
    → read_formed_holding p f ms ≡ Ok h → formed_shaped p h ≡ true
unfolding read_formed_holding
formed_is_shaped shapes sounds p f ms h sound is =
    then_ok (keys_known p.head ms ms) _ h is (λ w a1 b1.
    then_ok (read_attributes p.head ms) _ h b1 (λ head a2 b2.
    then_ok (nodes_of ms) _ h b2 (λ nodes a3 b3.
    then_ok (read_formed_items f 0 nodes) _ h b3 (λ items a4 b4.
    let e : record { head = head; items = items } ≡ h = same_ok _ _ b4 in
    rw (← e) (rw (shapes p.head ms head a2, formed_items_writable shapes sounds f 0 nodes items sound a4) refl)))))

pub formed_of : (p : Page) (f : Form) (ms : Members) (h : FormedHolding) (b : List ℕ) → read_formed_holding p f ms ≡ Ok h
    → bits_of b ≡ spell_formed p h → read_formed p f ms ≡ sized p.tag (bits_of b)
unfolding read_formed
formed_of p f ms h b is same = rw is (ap (sized p.tag) (sym same))

-- ---- the size of a body

-- a body of so many bytes has eight times as many bits
abbrev pub Lengths : Type 0
Lengths = (row : List ℕ) → length (bits_of row) ≡ 8 * length row

pub sized_large : Lengths → (tag : ℕ) (b : List ℕ) → 255 < length b → sized tag (bits_of b) ≡ refuse name_key OutOfRange
sized_large lengths tag b large =
    let long : 2040 < length (bits_of b) = omega (arith, lengths b) in
    rw (lt-ltb 2040 (length (bits_of b)) long) refl

pub sized_small : Lengths → (tag : ℕ) (b : List ℕ) → length b ≤ 255 → sized tag (bits_of b) ≡ Ok (tag, bits_of b)
sized_small lengths tag b small =
    let short : length (bits_of b) ≤ 2040 = omega (arith, lengths b) in
    rw (not_more 2040 (length (bits_of b)) (nat_lt 2040 (length (bits_of b))) refl short) refl

pub typed_of : (p : Page) (ms : Members) (h : Holding) (b : List ℕ) → read_holding p ms ≡ Ok h → bits_of b ≡ spell_page p h
    → read_typed p ms ≡ sized p.tag (bits_of b)
unfolding read_typed
typed_of p ms h b is same = rw is (ap (sized p.tag) (sym same))

-- fields alone are spelled as their rows
pub alone_spelled : (p : Page) (rs : List Row) (values : List Held)
    → spell_page (fields_alone p rs) (values_alone values) ≡ spell_rows rs values
unfolding spell_page
alone_spelled p rs values = append-nil (spell_rows rs values)

-- ---- a generic descriptor

tested : {A : Type 0} (b : Bool) (x y : A) (fault : JsonFault) → (if b then Ok x else Err fault) ≡ Ok y
    → (b ≡ true) × (x ≡ y)
tested true x y fault is = (refl, same_ok _ _ is)
tested false x y fault is = cc

number_bound : (widest : ℕ) (key : List ℕ) (ms : Members) (n : ℕ)
    → number_attribute None None widest key ms ≡ Ok n → n ≤ widest
unfolding number_attribute number_in
number_bound widest key ms n is = go (get_member key ms) is
  where
    go : (o : Option Data) → number_at None None widest key o ≡ Ok n → n ≤ widest
    go None is = cc
    go (Some value) is =
        then_ok (or_refuse (number_of value) key _) _ n is (λ m was later.
        let parts = tested (nat_le m widest && within None m) m n _ later in
        let small = leb-true m widest (both (nat_le m widest) (within None m) parts.0).0 in
        omega (arith, parts.1))

bytes_bound : (most : ℕ) (key : List ℕ) (ms : Members) (b : List ℕ)
    → data_attribute (Some (0, most)) key ms ≡ Ok b → length b ≤ most
unfolding data_attribute
bytes_bound most key ms b is =
    then_ok (hex_attribute key ms) _ b is (λ x was later.
    let parts = tested (nat_le 0 (length x) && nat_le (length x) most) x b _ later in
    let small = leb-true (length x) most (both (nat_le 0 (length x)) (nat_le (length x) most) parts.0).1 in
    omega (arith, ap length parts.1))

are_tagged_by : (values : List Held) (n : ℕ) (b : List ℕ) → number n ∷ bytes b ∷ [] ≡ values → n ≤ 255
    → length b ≤ 255 → are_tagged values
are_tagged_by values n b is small short = rw (← is) (omega arith, short)

rows_tagged : (ms : Members) (values : List Held) → read_attributes generic_rows ms ≡ Ok values → are_tagged values
unfolding read_attributes attribute_of
rows_tagged ms values is =
    then_ok (holds_number (number_attribute None None 255 _ ms)) _ values is (λ first was later.
    then_ok (number_attribute None None 255 _ ms) _ first was (λ n a1 b1.
    then_ok (holds_bytes (data_attribute (Some (0, 255)) _ ms) >>= λ value. Ok (option_to_list value ++ [])) _ values later (λ more had joins.
    then_ok (holds_bytes (data_attribute (Some (0, 255)) _ ms)) _ more had (λ second a2 b2.
    then_ok (data_attribute (Some (0, 255)) _ ms) _ second a2 (λ b a3 b3.
    let first_is : Some (number n) ≡ first = same_ok _ _ b1 in
    let second_is : Some (bytes b) ≡ second = same_ok _ _ b3 in
    let more_is : option_to_list second ++ [] ≡ more = same_ok _ _ b2 in
    let values_is : option_to_list first ++ more ≡ values = same_ok _ _ joins in
    are_tagged_by values n b
    (ap (λ l. number n ∷ l) (ap (λ s. option_to_list s ++ []) second_is ∙ more_is)
    ∙ ap (λ f. option_to_list f ++ more) first_is ∙ values_is)
    (number_bound 255 _ ms n a1) (bytes_bound 255 _ ms b a3))))))

pub generic_tagged : (ms : Members) (h : Holding) → read_holding generic_page ms ≡ Ok h → are_tagged h.head
unfolding read_holding
generic_tagged ms h is =
    then_ok (keys_known generic_rows ms ms) _ h is (λ w a1 b1.
    then_ok (read_attributes generic_rows ms) _ h b1 (λ head a2 b2.
    then_ok (nodes_of ms) _ h b2 (λ nodes a3 b3.
    then_ok (read_children None nodes) _ h b3 (λ items a4 b4.
    let e : record { head = head; items = items } ≡ h = same_ok _ _ b4 in
    rw (← e) (rows_tagged ms head a2)))))
