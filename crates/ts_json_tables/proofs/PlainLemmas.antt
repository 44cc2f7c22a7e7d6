-- Elements have only whole numbers, and are not deep.
use Rattle.std.proofs.Common.{◌≡◌, ℕ, suc, ◌≤◌, Bool, true, false, ◌||◌, List, [], ◌∷◌, ◌++◌, map, refl, arith, Ordering, Less, Equal, Greater}
use Rattle.std.specs.Prelude.{Option, Some, None, nat_eq, if◌then◌else◌, option_map}
use Rattle.std.specs.Ordering.{nat_cmp, match_ordering}
use Rattle.std.specs.Cmp.Lexicographic.{slice_cmp}
use Rattle.std.proofs.lemmas.Bool.{or_from, or_parts}
use Rattle.serde_json.specs.Data.{Data, number, unsigned, string, array, object, Members, no_members, member, put, depth, members_depth}
use Rattle.serde_json.specs.View.{items_of}
use Rattle.serde_json.specs.Written.{has_float, items_have_float, members_have_float}
use Rattle.ts_bits.specs.TaggedBody.{TaggedBody}
use Rattle.ts_fields.specs.declared.field.Kind.{Kind}
use Rattle.ts_fields.specs.declared.field.Kind.TheVariants as kinds
use Rattle.ts_fields.specs.Bits.{bits_of}
use Rattle.ts_fields.specs.Bodies.{Page, Holding, read_page}
use Rattle.ts_fields.specs.Layout as rows
use Rattle.ts_fields.specs.Layout.{Row, Held}
use Rattle.ts_fields.specs.Spelling.{holds}
use Rattle.ts_fields.specs.Texts.{text_of}
use Rattle.ts_groups.specs.Groups.{Group}
use Rattle.ts_item_forms.specs.ItemForms.{Form, FormedHolding, read_formed}
use Rattle.ts_shown_pages.specs.Extensions.{extension_groups_of, extension_of, extension_tag}
use Rattle.ts_shown_pages.specs.Pages.{form_of, groups_of, page_of}
use Rattle.ts_jtree.specs.Elements.{name_key, nodes_key}
use Rattle.ts_jtree.specs.Shown.{put_attribute, put_attributes, put_number, put_bytes, put_text_of, put_unless, put_nodes, element_base, element_members}
use Rattle.ts_json_descr.specs.DescrElements as descrs
use Rattle.ts_json_descr.specs.DescrElements.{body_shown, descr_shown, formed_shown, generic_rows, generic_name, page_shown, shown_by, typed}
use Rattle.ts_table_rows.specs.TablePages.{ItemPage, TablePage}
use Rattle.ts_table_rows.specs.TableValues.{ItemHolding, BodyHolding}
use Rattle.ts_json_tables.specs.HeldTables.{ShortHolding, TableValue, laid, short, long}
use Rattle.ts_json_tables.specs.TableElements.{children_shown, described_shown, descrs_shown, generic_shown, item_shown, items_shown, paged_shown, read_shown, section_shown, short_shown, shown_items, table_shown, tot_or_bytes}
use Rattle.ts_json_tables.specs.ShortPages.{short_page_of}
use Rattle.ts_json_tables.specs.TimeOffsets.{OffsetHolding, tot_id, tot_of}
use Rattle.std.specs.Prelude.{slice_get, drop}

-- a value without floats, of at most this depth; a row of values, and members
pub record IsPlain (most : ℕ) (d : Data) : Type 0 where
  pub whole : has_float d ≡ false
  pub shallow : depth d ≤ most

abbrev pub AllPlain : ℕ → List Data → Type 0
AllPlain most [] = Unit {0}
AllPlain most (d ∷ ds) = IsPlain most d × AllPlain most ds

pub record ArePlain (most : ℕ) (ms : Members) : Type 0 where
  pub whole : members_have_float ms ≡ false
  pub shallow : members_depth ms ≤ most

or_first : (x y : Bool) → (x || y) ≡ false → x ≡ false
or_first x y none = (or_parts x y none).0

or_second : (x y : Bool) → (x || y) ≡ false → y ≡ false
or_second x y none = (or_parts x y none).1

plain_member : (most : ℕ) (k : List ℕ) (d : Data) (ms : Members) → IsPlain most d → ArePlain most ms → ArePlain most (member k d ms)
plain_member most k d ms one more = record {
  whole = or_from (has_float d) (members_have_float ms) one.whole more.whole;
  shallow = omega (arith, one.shallow, more.shallow);
}

first_plain : (most : ℕ) (k : List ℕ) (d : Data) (ms : Members) → ArePlain most (member k d ms) → IsPlain most d
first_plain most k d ms all = record {
  whole = or_first (has_float d) (members_have_float ms) all.whole;
  shallow = omega (arith, all.shallow);
}

others_plain : (most : ℕ) (k : List ℕ) (d : Data) (ms : Members) → ArePlain most (member k d ms) → ArePlain most ms
others_plain most k d ms all = record {
  whole = or_second (has_float d) (members_have_float ms) all.whole;
  shallow = omega (arith, all.shallow);
}

by_order : {A : Type 0} (P : A → Type 0) (o : Ordering) (x y z : A) → P x → P y → P z → P (match_ordering o x y z)
by_order P Less x y z less equal greater = less
by_order P Equal x y z less equal greater = equal
by_order P Greater x y z less equal greater = greater

put_plain : (most : ℕ) (k : List ℕ) (d : Data) (ms : Members) → IsPlain most d → ArePlain most ms → ArePlain most (put k d ms)
put_plain most k d no_members one all = plain_member most k d no_members one all
put_plain most k d (member l e ms) one all =
    let others = others_plain most l e ms all in
    by_order (ArePlain most) (slice_cmp nat_cmp k l) (member k d (member l e ms)) (member l d ms) (member l e (put k d ms))
    (plain_member most k d (member l e ms) one all)
    (plain_member most l d ms one others)
    (plain_member most l e (put k d ms) (first_plain most l e ms all) (put_plain most k d ms one others))

flat : (most : ℕ) (d : Data) → has_float d ≡ false → depth d ≡ 0 → IsPlain most d
flat most d whole none = record { whole = whole; shallow = omega (arith, none) }

number_plain : (most : ℕ) (held : Option Held) (key : List ℕ) (ms : Members) (show : ℕ → Data) → ((n : ℕ) → IsPlain most (show n))
    → ArePlain most ms → ArePlain most (put_number held key ms show)
number_plain most None key ms show each all = all
number_plain most (Some (rows.number n)) key ms show each all = put_plain most key (show n) ms (each n) all
number_plain most (Some (rows.bytes b)) key ms show each all = all

bytes_plain : (most : ℕ) (held : Option Held) (ms : Members) (show : List ℕ → Members) → ((b : List ℕ) → ArePlain most (show b))
    → ArePlain most ms → ArePlain most (put_bytes held ms show)
bytes_plain most None ms show each all = all
bytes_plain most (Some (rows.number n)) ms show each all = all
bytes_plain most (Some (rows.bytes b)) ms show each all = each b

string_plain : (most : ℕ) (key text : List ℕ) (ms : Members) → ArePlain most ms → ArePlain most (put key (string text) ms)
string_plain most key text ms all = put_plain most key (string text) ms (flat most (string text) refl refl) all

text_plain : (most : ℕ) (o : Option (List ℕ)) (tabled : Option (List ℕ × List ℕ)) (key b : List ℕ) (ms : Members)
    → ArePlain most ms → ArePlain most (put_text_of o tabled key b ms)
text_plain most (Some text) tabled key b ms all = string_plain most key text ms all
text_plain most None (Some x) key b ms all = string_plain most _ _ _ (string_plain most key x.1 ms all)
text_plain most None None key b ms all = string_plain most _ _ ms all

unless_plain : (most : ℕ) (usual : ℕ → Bool) (held : Option Held) (key : List ℕ) (ms : Members) → ArePlain most ms
    → ArePlain most (put_unless usual held key ms)
unless_plain most usual None key ms all = all
unless_plain most usual (Some (rows.number n)) key ms all =
    elim (usual n) as (λ b. ArePlain most (if b then ms else put key (number (unsigned n)) ms)) [
      | true ↦ all
      | false ↦ put_plain most key (number (unsigned n)) ms (flat most (number (unsigned n)) refl refl) all
    ]
unless_plain most usual (Some (rows.bytes b)) key ms all = all

attribute_plain : (most : ℕ) (kind : Kind) (key : List ℕ) (held : Option Held) (ms : Members) → ArePlain most ms
    → ArePlain most (put_attribute kind key held ms)
unfolding put_attribute
attribute_plain most (kinds.Number count) key held ms all =
    number_plain most held key ms (λ n. number (unsigned n)) (λ n. flat most (number (unsigned n)) refl refl) all
attribute_plain most (kinds.Reserved count) key held ms all = unless_plain most _ held key ms all
attribute_plain most (kinds.Zeros count) key held ms all = unless_plain most _ held key ms all
attribute_plain most (kinds.Ones count) key held ms all = all
attribute_plain most (kinds.Free count) key held ms all = all
attribute_plain most kinds.Flag key held ms all = number_plain most held key ms _ (λ n. flat most _ refl refl) all
attribute_plain most kinds.Start key held ms all = number_plain most held key ms _ (λ n. flat most _ refl refl) all
attribute_plain most kinds.Duration key held ms all = number_plain most held key ms _ (λ n. flat most _ refl refl) all
attribute_plain most (kinds.Decimal digits) key held ms all =
    number_plain most held key ms (λ n. number (unsigned n)) (λ n. flat most (number (unsigned n)) refl refl) all
attribute_plain most kinds.Language key held ms all = bytes_plain most held ms _ (λ b. string_plain most key b ms all) all
attribute_plain most kinds.CountedText key held ms all = bytes_plain most held ms _ (λ b. text_plain most (text_of b) _ key b ms all) all
attribute_plain most kinds.Text key held ms all = bytes_plain most held ms _ (λ b. text_plain most (text_of b) _ key b ms all) all
attribute_plain most kinds.Hex key held ms all = bytes_plain most held ms _ (λ b. string_plain most key _ ms all) all
attribute_plain most kinds.CountedHex key held ms all = bytes_plain most held ms _ (λ b. string_plain most key _ ms all) all

attributes_plain : (most : ℕ) (rs : List Row) (values : List Held) (ms : Members) → ArePlain most ms → ArePlain most (put_attributes rs values ms)
unfolding put_attributes
attributes_plain most [] values ms all = all
attributes_plain most (r ∷ rs) values ms all =
    attributes_plain most rs (drop (holds r.kind) values) (put_attribute r.kind r.name (slice_get values 0) ms)
    (attribute_plain most r.kind r.name (slice_get values 0) ms all)

-- children that are plain, where there are some
abbrev NodesPlain : ℕ → Option Data → Type 0
NodesPlain most None = Unit {0}
NodesPlain most (Some d) = IsPlain most d

nodes_plain : (most : ℕ) (nodes : Option Data) (ms : Members) → NodesPlain most nodes → ArePlain most ms → ArePlain most (put_nodes nodes ms)
nodes_plain most None ms plain all = all
nodes_plain most (Some d) ms plain all = put_plain most nodes_key d ms plain all

element_plain : (most : ℕ) (rs : List Row) (called : List ℕ) (nodes : Option Data) (values : List Held) → NodesPlain most nodes
    → IsPlain (suc most) (object (element_members rs called nodes values))
element_plain most rs called nodes values plain =
    let named = string_plain most name_key called no_members (record { whole = refl; shallow = omega arith }) in
    let all = attributes_plain most rs values (element_base called nodes) (nodes_plain most nodes _ plain named) in
    record { whole = all.whole; shallow = omega (arith, all.shallow) }

array_plain : (most : ℕ) (ds : List Data) → AllPlain most ds → IsPlain (suc most) (array (items_of ds))
array_plain most [] all = record { whole = refl; shallow = omega arith }
array_plain most (d ∷ ds) all =
    let more = array_plain most ds all.1 in
    record { whole = or_from (has_float d) (items_have_float (items_of ds)) all.0.whole more.whole; shallow = omega (arith, all.0.shallow, more.shallow) }

each_plain : {A : Type 0} (most : ℕ) (show : A → Data) → ((x : A) → IsPlain most (show x)) → (xs : List A) → AllPlain most (map show xs)
each_plain most show each [] = tt
each_plain most show each (x ∷ xs) = (each x, each_plain most show each xs)

both_plain : (most : ℕ) (ds es : List Data) → AllPlain most ds → AllPlain most es → AllPlain most (ds ++ es)
both_plain most [] es all more = more
both_plain most (d ∷ ds) es all more = (all.0, both_plain most ds es all.1 more)

-- ---- descriptors

body_plain : (most : ℕ) (p : Page) (h : Holding) → NodesPlain (suc (suc most)) (descrs.items_shown p.items h.items)
    → IsPlain (suc (suc (suc most))) (body_shown p h)
body_plain most p h nodes = element_plain (suc (suc most)) p.head p.name (descrs.items_shown p.items h.items) h.head nodes

own_nodes : (most : ℕ) (i : Option (List ℕ × List Row)) (items : List (List Held)) → NodesPlain (suc (suc most)) (descrs.items_shown i items)
own_nodes most None items = tt
own_nodes most (Some i) items =
    array_plain (suc most) (map (descrs.item_shown i) items)
    (each_plain (suc most) (descrs.item_shown i) (λ values. element_plain most i.1 i.0 None values tt) items)

-- the element of a body with items of a form
formed_plain : (most : ℕ) (p : Page) (h : FormedHolding) → IsPlain (suc (suc (suc (suc (suc most))))) (formed_shown p h)
formed_plain most p h =
    element_plain (suc (suc (suc (suc most)))) p.head p.name (Some (array (items_of (map (λ x. body_shown x.0 x.1) h.items)))) h.head
    (array_plain (suc (suc (suc most))) (map (λ x. body_shown x.0 x.1) h.items)
    (each_plain (suc (suc (suc most))) (λ x. body_shown x.0 x.1) (λ x. body_plain most x.0 x.1 (own_nodes most x.0.items x.1.items)) h.items))

page_plain : (most : ℕ) (p : Page) (groups : Option (List Group)) (form : Option Form) (from : List Bool)
    → NodesPlain (suc (suc (suc (suc (suc most))))) (page_shown p groups form from)
page_plain most p groups None from = go (descrs.read_paged p groups from)
  where
    go : (r : Option (Page × Holding)) → NodesPlain (suc (suc (suc (suc (suc most))))) (option_map (λ x. body_shown x.0 x.1) r)
    go None = tt
    go (Some x) = body_plain (suc (suc most)) x.0 x.1 (own_nodes (suc (suc most)) x.0.items x.1.items)
page_plain most p groups (Some f) from = go (read_formed p f from)
  where
    go : (r : Option FormedHolding) → NodesPlain (suc (suc (suc (suc (suc most))))) (option_map (formed_shown p) r)
    go None = tt
    go (Some h) = formed_plain most p h

by_page : (most : ℕ) (o : Option Page) (groups : ℕ → Option (List Group)) (forms : ℕ → Option Form) (row : List ℕ)
    → NodesPlain (suc (suc (suc (suc (suc most))))) (descrs.by_page o groups forms row)
by_page most None groups forms row = tt
by_page most (Some p) groups forms row = page_plain most p (groups p.tag) (forms p.tag) (bits_of row)

extension_plain : (most : ℕ) (body : List ℕ) → NodesPlain (suc (suc (suc (suc (suc most))))) (descrs.extension_typed body)
extension_plain most [] = tt
extension_plain most (tag ∷ row) = by_page most (extension_of tag) extension_groups_of descrs.no_form row

typed_plain : (most : ℕ) (d : TaggedBody) → NodesPlain (suc (suc (suc (suc (suc most))))) (typed d)
typed_plain most d = go (nat_eq d.tag extension_tag)
  where
    go : (b : Bool) → NodesPlain (suc (suc (suc (suc (suc most))))) (if b then descrs.extension_typed d.body else descrs.by_page (page_of d.tag) groups_of form_of d.body)
    go true = extension_plain most d.body
    go false = by_page most (page_of d.tag) groups_of form_of d.body

descr_plain : (most : ℕ) (d : TaggedBody) → IsPlain (suc (suc (suc (suc (suc most))))) (descr_shown d)
descr_plain most d = go (typed d) (typed_plain most d)
  where
    go : (o : Option Data) → NodesPlain (suc (suc (suc (suc (suc most))))) o → IsPlain (suc (suc (suc (suc (suc most))))) (shown_by o d)
    go None plain = element_plain (suc (suc (suc (suc most)))) generic_rows generic_name None _ tt
    go (Some x) plain = plain

-- ---- tables

described_plain : (described : Bool) (ds : List TaggedBody) → NodesPlain 6 (described_shown described ds)
described_plain false ds = tt
described_plain true ds = array_plain 5 (descrs_shown ds) (each_plain 5 descr_shown (descr_plain 0) ds)

items_plain : (i : Option ItemPage) (items : List ItemHolding) → AllPlain 7 (items_shown i items)
items_plain None items = tt
items_plain (Some i) items =
    each_plain 7 (item_shown i) (λ x. element_plain 6 i.rows i.name (described_shown i.described x.descriptors) x.values (described_plain i.described x.descriptors)) items

children_plain : (p : TablePage) (b : BodyHolding) → IsPlain 8 (array (items_of (children_shown p b)))
children_plain p b =
    array_plain 7 (children_shown p b)
    (both_plain 7 (descrs_shown b.descriptors) (items_shown p.items (shown_items p.one_zero b.items))
    (each_plain 7 descr_shown (descr_plain 2) b.descriptors) (items_plain p.items (shown_items p.one_zero b.items)))

generic_plain : (s : ShortHolding) → IsPlain 9 (generic_shown s)
generic_plain s = element_plain 8 _ _ None _ tt

tot_plain : (o : Option OffsetHolding) (s : ShortHolding) → IsPlain 9 (tot_or_bytes o s)
tot_plain None s = generic_plain s
tot_plain (Some t) s =
    element_plain 8 _ _ (Some (array (items_of (descrs_shown t.descriptors)))) _
    (array_plain 7 (descrs_shown t.descriptors) (each_plain 7 descr_shown (descr_plain 2) t.descriptors))

read_plain : (p : Page) (o : Option Holding) (s : ShortHolding) → IsPlain 9 (read_shown p o s)
read_plain p None s = generic_plain s
read_plain p (Some h) s = body_plain 6 p h (own_nodes 6 p.items h.items)

paged_plain : (o : Option Page) (s : ShortHolding) → IsPlain 9 (paged_shown o s)
paged_plain None s = generic_plain s
paged_plain (Some p) s = read_plain p (read_page p (bits_of s.payload)) s

short_plain : (s : ShortHolding) → IsPlain 9 (short_shown s)
short_plain s = go s.own (nat_eq s.table_id tot_id)
  where
    go : (a b : Bool) → IsPlain 9 (if a then (if b then tot_or_bytes (tot_of s.payload) s else paged_shown (short_page_of s.table_id) s) else generic_shown s)
    go true true = tot_plain (tot_of s.payload) s
    go true false = paged_plain (short_page_of s.table_id) s
    go false b = generic_plain s

pub table_plain : (t : TableValue) → IsPlain 9 (table_shown t)
table_plain (laid p t) = element_plain 8 _ p.name (Some (array (items_of (children_shown p t.body)))) _ (children_plain p t.body)
table_plain (short s) = short_plain s
table_plain (long l) =
    element_plain 8 _ _ (Some (array (items_of (map section_shown l.payloads)))) _
    (array_plain 7 (map section_shown l.payloads) (each_plain 7 section_shown (λ row. element_plain 6 _ _ None _ tt) l.payloads))
