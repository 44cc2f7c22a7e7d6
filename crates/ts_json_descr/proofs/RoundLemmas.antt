-- A descriptor that is shown is read again.
use Rattle.std.proofs.Common.{◌≡◌, ℕ, ◌+◌, ◌<◌, ◌≤◌, Bool, true, false, List, [], ◌∷◌, ◌++◌, ◌∙◌, length, take, refl, sym, ap, arith, map, subst}
use Rattle.std.specs.Prelude.{◌&&◌, Option, Some, None, Ok, Err, option_map, nat_eq, nat_lt, if◌then◌else◌}
use Rattle.std.proofs.lemmas.Bool.{eqb-true, lt-ltb, le-leb}
use Rattle.std.proofs.lemmas.Option.{same_Some}
use Rattle.serde_json.specs.Data.{Data, Items, Members, array, object}
use Rattle.serde_json.specs.Find.{get_member}
use Rattle.serde_json.specs.View.{items_of}
use Rattle.ts_bits.specs.TaggedBody.{TaggedBody}
use Rattle.ts_fields.specs.Bits.{bits, bits_of}
use Rattle.ts_fields.specs.Bodies.{Page, Holding, all_fit, held_by, items_fit, page_exact, page_fits, read_page, spell_page}
use Rattle.ts_fields.specs.Fitting.{are_bytes, fits}
use Rattle.ts_fields.specs.Layout.{Row, Held, number, bytes}
use Rattle.ts_groups.specs.Groups.{Group, chosen, grouped_exact, grouped_sound, page_with, read_grouped}
use Rattle.ts_item_forms.specs.ItemForms.{AreOfForm, Form, FormedHolding, IsOfForm, formed_exact, formed_sound, page_by, read_formed, spell_formed}
use Rattle.ts_shown_pages.specs.Extensions.{extension_groups_of, extension_of, extension_tag}
use Rattle.ts_shown_pages.specs.Pages.{form_of, groups_of, page_of}
use Rattle.ts_jtree.specs.Attributes.{read_attributes}
use Rattle.ts_jtree.specs.Elements.{keys_known, name_of, nodes_at, nodes_key, nodes_of, no_children, read_element}
use Rattle.ts_jtree.specs.Faults.{Reading, ◌>>=◌}
use Rattle.ts_jtree.specs.Shown.{are_within, element_members, rows_show}
use Rattle.ts_json_descr.specs.DescrElements.{body_shown, by_page, descr_shown, extension_typed, formed_shown, generic_name, generic_page, generic_rows, generic_shown, item_shown, items_shown, no_form, page_shown, read_paged, shown_by}
use Rattle.ts_json_descr.specs.DescrReading as reads
use Rattle.ts_json_descr.specs.DescrReading.{descr_read, read_by_page, read_children, read_formed_holding, read_formed_item, read_formed_items, read_generic, read_holding, read_item, read_items, read_typed, sized}
use Rattle.ts_json_descr.proofs.BodyLemmas.{Lengths}
use Rattle.ts_json_descr.proofs.GroupLemmas.{every, first_attributes, plain, show_again, show_chosen}
use Rattle.ts_json_descr.proofs.PageLemmas.{Shown, extension_good, form_shown, items_show, page_good, plain_within}
use Rattle.ts_json_descr.proofs.StepLemmas.{both, not_more}
use Rattle.std.proofs.lemmas.Slice.Eq.{bytes_eq-Decides}
use Rattle.std.specs.Prelude.{bytes_eq}

-- what the laws of elements, bits and pages say, by the contracts of the crates below
pub record Laws : Type 0 where
  pub name : (rs : List Row) (called : List ℕ) (nodes : Option Data) (values : List Held) → rows_show rs ≡ true → name_of (element_members rs called nodes values) ≡ Ok called
  pub keys : (rs : List Row) (called : List ℕ) (nodes : Option Data) (values : List Held) → rows_show rs ≡ true → keys_known rs (element_members rs called nodes values) (element_members rs called nodes values) ≡ Ok []
  pub values : (rs : List Row) (called : List ℕ) (nodes : Option Data) (values : List Held) → rows_show rs ≡ true → fits rs values ≡ true → are_within rs values ≡ true → read_attributes rs (element_members rs called nodes values) ≡ Ok values
  pub children : (rs : List Row) (called : List ℕ) (nodes : Option Data) (values : List Held) → rows_show rs ≡ true → get_member nodes_key (element_members rs called nodes values) ≡ nodes
  pub lengths : Lengths
  pub written : (p : Page) (from : List Bool) (h : Holding) → page_exact p ≡ true → read_page p from ≡ Some h → (from ≡ spell_page p h) × (page_fits p h ≡ true)
  pub formed : (p : Page) (f : Form) (from : List Bool) (h : FormedHolding) → formed_exact p f ≡ true → read_formed p f from ≡ Some h → (from ≡ spell_formed p h) × (fits p.head h.head ≡ true) × (AreOfForm f h.items)
  pub grouped : (p : Page) (groups : List Group) (from : List Bool) (q : Page) (h : Holding) → grouped_exact p groups ≡ true → read_grouped p groups from ≡ Some (q, h) → (q ≡ page_with p groups (take (held_by p.head) h.head)) × (from ≡ spell_page q h) × (page_fits q h ≡ true)

self_name : (name : List ℕ) → bytes_eq name name ≡ true
self_name name = (bytes_eq-Decides name name).1 refl

item_again : Laws → (i : List ℕ × List Row) (values : List Held) → show_again i.1 ≡ true → fits i.1 values ≡ true
    → read_item i (item_shown i values) ≡ Ok values
unfolding read_item read_element nodes_of no_children
item_again laws i values shows fit =
    let parts = both (rows_show i.1) (plain i.1) shows in
    rw (
      laws.name i.1 i.0 None values parts.0,
      self_name i.0,
      laws.keys i.1 i.0 None values parts.0,
      laws.values i.1 i.0 None values parts.0 fit (plain_within i.1 values parts.1),
      laws.children i.1 i.0 None values parts.0,
    ) refl

items_again : Laws → (i : List ℕ × List Row) (place : ℕ) (items : List (List Held)) → show_again i.1 ≡ true
    → all_fit i.1 items ≡ true → read_items i place (items_of (map (item_shown i) items)) ≡ Ok items
unfolding read_items
items_again laws i place [] shows fit = refl
items_again laws i place (one ∷ items) shows fit =
    let parts = both (fits i.1 one) (all_fit i.1 items) fit in
    rw (item_again laws i one shows parts.0, items_again laws i (place + 1) items shows parts.1) refl

children_again : Laws → (i : Option (List ℕ × List Row)) (items : List (List Held)) → items_show i ≡ true
    → items_fit i items ≡ true → (nodes_at (items_shown i items) >>= λ nodes. read_children i nodes) ≡ Ok items
unfolding read_children no_children
children_again laws None [] shows fit = refl
children_again laws None (one ∷ items) shows fit = cc
children_again laws (Some i) items shows fit = items_again laws i 0 items shows fit

joined : (read : Reading Items) (i : Option (List ℕ × List Row)) (head : List Held) (items : List (List Held))
    → (read >>= λ nodes. read_children i nodes) ≡ Ok items
    → ◌>>=◌ {B = Holding} read (λ nodes. ◌>>=◌ {B = Holding} (read_children i nodes) (λ items. Ok (record { head = head; items = items })))
    ≡ Ok (record { head = head; items = items })
joined (Ok nodes) i head items is = rw is refl
joined (Err fault) i head items is = cc

-- the element of a body of a page is read as that body
pub holding_again : Laws → (p : Page) (h : Holding) → rows_show p.head ≡ true → items_show p.items ≡ true
    → are_within p.head h.head ≡ true → page_fits p h ≡ true
    → read_holding p (element_members p.head p.name (items_shown p.items h.items) h.head) ≡ Ok h
unfolding read_holding nodes_of
holding_again laws p h shows items inside fit =
    let halves = both (fits p.head h.head) (items_fit p.items h.items) fit in
    let nodes = items_shown p.items h.items in
    rw (
      laws.keys p.head p.name nodes h.head shows,
      laws.values p.head p.name nodes h.head shows halves.0 inside,
      laws.children p.head p.name nodes h.head shows,
    ) (joined (nodes_at nodes) p.items h.head h.items (children_again laws p.items h.items items halves.1))

sized_again : (n tag : ℕ) (from to : List Bool) → nat_lt 2040 (length from) ≡ false → tag ≡ n → to ≡ from
    → sized n from ≡ Ok (tag, to)
sized_again n tag from to test same is = rw (test, same) (ap (λ l. Ok (n, l)) (sym is))

-- members that are read by a page as these bytes, and whose name is the page's
record ReadsBack (p : Page) (groups : Option (List Group)) (row : List ℕ) (ms : Members) : Type 0 where
  named : name_of ms ≡ Ok p.name
  read : reads.read_paged p groups ms ≡ Ok (p.tag, bits_of row)

-- the members of a body of a page
abbrev members_shown : Page × Holding → Members
members_shown x = element_members x.0.head x.0.name (items_shown x.0.items x.1.items) x.1.head

plain_back : Laws → (p : Page) (h : Holding) (row : List ℕ) → length row ≤ 255 → Shown p None
    → read_page p (bits_of row) ≡ Some h → ReadsBack p None row (members_shown (p, h))
unfolding read_typed
plain_back laws p h row short good read =
    let took = laws.written p (bits_of row) h good.exact read in
    let parts = both (rows_show p.head) (plain p.head) good.head in
    let inside = plain_within p.head h.head parts.1 in
    let small : length (spell_page p h) ≤ 2040 = omega (arith, ap length took.0, laws.lengths row) in
    let test = not_more 2040 (length (spell_page p h)) (nat_lt 2040 (length (spell_page p h))) refl small in
    record {
      named = laws.name p.head p.name (items_shown p.items h.items) h.head parts.0;
      read = rw (holding_again laws p h parts.0 good.items inside took.1) (sized_again p.tag p.tag (spell_page p h) (bits_of row) test refl took.0);
    }

-- the element of the fields that are there is read by the same fields
chosen_back : Laws → (p : Page) (groups : List Group) (h : Holding) (row : List ℕ) → length row ≤ 255 → Shown p (Some groups)
    → bits_of row ≡ spell_page (page_with p groups (take (held_by p.head) h.head)) h
    → page_fits (page_with p groups (take (held_by p.head) h.head)) h ≡ true
    → ReadsBack p (Some groups) row (members_shown (page_with p groups (take (held_by p.head) h.head), h))
unfolding read_typed
chosen_back laws p groups h row short good same fit =
    let values = take (held_by p.head) h.head in
    let q = page_with p groups values in
    let shows = show_chosen p.head groups values (both (grouped_exact p groups) (show_again (p.head ++ every groups)) (both (grouped_sound p groups) _ good.grouped).1).1 in
    let parts = both (rows_show q.head) (plain q.head) shows in
    let inside = plain_within q.head h.head parts.1 in
    let ms = element_members q.head p.name None h.head in
    let halves = both (fits q.head h.head) (items_fit q.items h.items) fit in
    let first : read_attributes p.head ms ≡ Ok values =
    first_attributes p.head (chosen groups values) ms h.head (laws.values q.head p.name None h.head parts.0 halves.0 inside) in
    let all : read_holding q ms ≡ Ok h = holding_again laws q h parts.0 refl inside fit in
    let small : length (spell_page q h) ≤ 2040 = omega (arith, ap length same, laws.lengths row) in
    let test = not_more 2040 (length (spell_page q h)) (nat_lt 2040 (length (spell_page q h))) refl small in
    record {
      named = laws.name q.head p.name None h.head parts.0;
      read = rw (first, all) (sized_again p.tag p.tag (spell_page q h) (bits_of row) test refl same);
    }

grouped_back : Laws → (p : Page) (groups : List Group) (q : Page) (h : Holding) (row : List ℕ) → length row ≤ 255
    → Shown p (Some groups) → read_grouped p groups (bits_of row) ≡ Some (q, h)
    → ReadsBack p (Some groups) row (members_shown (q, h))
grouped_back laws p groups q h row short good read =
    let exact = (both (grouped_exact p groups) _ (both (grouped_sound p groups) _ good.grouped).1).0 in
    let took = laws.grouped p groups (bits_of row) q h exact read in
    subst (λ x. ReadsBack p (Some groups) row (members_shown (x, h))) (sym took.0)
    (chosen_back laws p groups h row short good (took.1 ∙ ap (λ x. spell_page x h) took.0) (ap (λ x. page_fits x h) (sym took.0) ∙ took.2))

-- what a page reads is shown so that the page reads it again
paged_back : Laws → (p : Page) (groups : Option (List Group)) (row : List ℕ) (x : Page × Holding) → length row ≤ 255
    → Shown p groups → read_paged p groups (bits_of row) ≡ Some x → ReadsBack p groups row (members_shown x)
paged_back laws p None row x short good read = go (read_page p (bits_of row)) refl read
  where
    go : (r : Option Holding) → read_page p (bits_of row) ≡ r → option_map (λ h. (p, h)) r ≡ Some x → ReadsBack p None row (members_shown x)
    go None at is = cc
    go (Some h) at is =
        let same : (p, h) ≡ x = same_Some _ _ is in
        subst (λ z. ReadsBack p None row (members_shown z)) same (plain_back laws p h row short good at)
paged_back laws p (Some groups) row x short good read = grouped_back laws p groups x.0 x.1 row short good read

-- ---- items of a form

-- the element of an item is read by the fields that the item has
formed_item_again : Laws → (f : Form) (x : Page × Holding) → show_again (f.head ++ every f.groups) ≡ true
    → items_show f.inner ≡ true → IsOfForm f x → read_formed_item f (body_shown x.0 x.1) ≡ Ok x
unfolding read_formed_item
formed_item_again laws f x shows inner is =
    let h = x.1 in
    let values = take (held_by f.head) h.head in
    let q = page_by f values in
    let parts = both (rows_show q.head) (plain q.head) (show_chosen f.head f.groups values shows) in
    let inside = plain_within q.head h.head parts.1 in
    let fit : page_fits q h ≡ true = ap (λ z. page_fits z h) (sym is.own) ∙ is.fits in
    let halves = both (fits q.head h.head) (items_fit q.items h.items) fit in
    let nodes = items_shown q.items h.items in
    let ms = element_members q.head q.name nodes h.head in
    let first : read_attributes f.head ms ≡ Ok values =
    first_attributes f.head (chosen f.groups values) ms h.head (laws.values q.head q.name nodes h.head parts.0 halves.0 inside) in
    let all : read_holding q ms ≡ Ok h = holding_again laws q h parts.0 inner inside fit in
    let whole : read_formed_item f (body_shown q h) ≡ Ok (q, h) = rw (laws.name q.head q.name nodes h.head parts.0, self_name f.name, first, all) refl in
    subst (λ z. read_formed_item f (body_shown z h) ≡ Ok (z, h)) (sym is.own) whole

formed_items_again : Laws → (f : Form) (place : ℕ) (xs : List (Page × Holding)) → show_again (f.head ++ every f.groups) ≡ true
    → items_show f.inner ≡ true → AreOfForm f xs
    → read_formed_items f place (items_of (map (λ x. body_shown x.0 x.1) xs)) ≡ Ok xs
unfolding read_formed_items
formed_items_again laws f place [] shows inner all = refl
formed_items_again laws f place (x ∷ xs) shows inner all =
    rw (formed_item_again laws f x shows inner all.0, formed_items_again laws f (place + 1) xs shows inner all.1) refl

-- the children of the element of a body with such items
abbrev formed_nodes : FormedHolding → Option Data
formed_nodes h = Some (array (items_of (map (λ x. body_shown x.0 x.1) h.items)))

formed_back : Laws → (p : Page) (f : Form) (h : FormedHolding) (row : List ℕ) → length row ≤ 255 → Shown p None
    → form_shown p (Some f) ≡ true → read_formed p f (bits_of row) ≡ Some h
    → reads.read_formed p f (element_members p.head p.name (formed_nodes h) h.head) ≡ Ok (p.tag, bits_of row)
unfolding reads.read_formed read_formed_holding nodes_of
formed_back laws p f h row short good formed read =
    let one = both (formed_sound p f && formed_exact p f) (show_again (f.head ++ every f.groups) && items_show f.inner) formed in
    let two = both (show_again (f.head ++ every f.groups)) (items_show f.inner) one.1 in
    let took = laws.formed p f (bits_of row) h (both (formed_sound p f) (formed_exact p f) one.0).1 read in
    let parts = both (rows_show p.head) (plain p.head) good.head in
    let inside = plain_within p.head h.head parts.1 in
    let small : length (spell_formed p h) ≤ 2040 = omega (arith, ap length took.0, laws.lengths row) in
    let test = not_more 2040 (length (spell_formed p h)) (nat_lt 2040 (length (spell_formed p h))) refl small in
    rw (
      laws.keys p.head p.name (formed_nodes h) h.head parts.0,
      laws.values p.head p.name (formed_nodes h) h.head parts.0 took.1 inside,
      laws.children p.head p.name (formed_nodes h) h.head parts.0,
      formed_items_again laws f 0 h.items two.0 two.1 took.2,
    ) (sized_again p.tag p.tag (spell_formed p h) (bits_of row) test refl took.0)

-- an element that is read by a page as these bytes, and whose name is the page's
record ShownBack (p : Page) (groups : Option (List Group)) (form : Option Form) (row : List ℕ) (x : Data) : Type 0 where
  ms : Members
  element : x ≡ object ms
  named : name_of ms ≡ Ok p.name
  read : read_by_page p groups form ms ≡ Ok (p.tag, bits_of row)

-- what a page reads is shown so that the page reads it again
page_back : Laws → (p : Page) (groups : Option (List Group)) (form : Option Form) (row : List ℕ) (x : Data) → length row ≤ 255
    → Shown p groups → form_shown p form ≡ true → page_shown p groups form (bits_of row) ≡ Some x → ShownBack p groups form row x
page_back laws p groups None row x short good formed read = go (read_paged p groups (bits_of row)) refl read
  where
    go : (r : Option (Page × Holding)) → read_paged p groups (bits_of row) ≡ r → option_map (λ y. body_shown y.0 y.1) r ≡ Some x → ShownBack p groups None row x
    go None at is = cc
    go (Some y) at is =
        let back = paged_back laws p groups row y short good at in
        record { ms = members_shown y; element = sym (same_Some _ _ is); named = back.named; read = back.read }
page_back laws p groups (Some f) row x short good formed read = go (read_formed p f (bits_of row)) refl read
  where
    alone : Shown p None
    alone = record { head = good.head; items = good.items; exact = good.exact; grouped = refl }

    go : (r : Option FormedHolding) → read_formed p f (bits_of row) ≡ r → option_map (formed_shown p) r ≡ Some x → ShownBack p groups (Some f) row x
    go None at is = cc
    go (Some h) at is = record {
      ms = element_members p.head p.name (formed_nodes h) h.head;
      element = sym (same_Some _ _ is);
      named = laws.name p.head p.name (formed_nodes h) h.head (both (rows_show p.head) (plain p.head) good.head).0;
      read = formed_back laws p f h row short alone formed at;
    }

typed_again : Laws → (d : TaggedBody) (p : Page) (x : Data) → length d.body ≤ 255 → page_of d.tag ≡ Some p
    → page_shown p (groups_of p.tag) (form_of p.tag) (bits_of d.body) ≡ Some x → descr_read x ≡ Ok (d.tag, bits_of d.body)
unfolding descr_read
typed_again laws d p x short found read =
    let good = page_good d.tag p found in
    let back = page_back laws p (groups_of p.tag) (form_of p.tag) d.body x short good.0.shown good.0.formed read in
    let whole : descr_read (object back.ms) ≡ Ok (d.tag, bits_of d.body) = rw (back.named, good.0.own, good.0.named, back.read) (ap (λ n. Ok (n, bits_of d.body)) (sym good.1)) in
    ap descr_read back.element ∙ whole

-- the same of an extension descriptor: its element is read as the extension's tag and the bytes after it
extension_again : Laws → (d : TaggedBody) (tag : ℕ) (row : List ℕ) (p : Page) (x : Data) → d.body ≡ tag ∷ row
    → d.tag ≡ extension_tag → length d.body ≤ 255 → extension_of tag ≡ Some p
    → page_shown p (extension_groups_of p.tag) None (bits_of row) ≡ Some x → descr_read x ≡ Ok (d.tag, bits_of d.body)
unfolding descr_read
extension_again laws d tag row p x body is short found read =
    let good = extension_good tag p found in
    let few : length row ≤ 255 = omega (arith, ap length body, short) in
    let back = page_back laws p (extension_groups_of p.tag) None row x few good.0.shown refl read in
    let whole = bits 8 p.tag ++ bits_of row in
    let same : bits_of d.body ≡ whole = ap bits_of body ∙ ap (λ n. bits 8 n ++ bits_of row) good.1 in
    let small : length whole ≤ 2040 = omega (arith, ap length same, laws.lengths d.body, short) in
    let test = not_more 2040 (length whole) (nat_lt 2040 (length whole)) refl small in
    let all : descr_read (object back.ms) ≡ Ok (d.tag, bits_of d.body) = rw (back.named, good.0.own, good.0.apart, good.0.named, back.read) (sized_again extension_tag d.tag whole (bits_of d.body) test is same) in
    ap descr_read back.element ∙ all

generic_again : Laws → (d : TaggedBody) → d.tag < 256 → are_bytes d.body ≡ true → length d.body ≤ 255
    → descr_read (generic_shown d) ≡ Ok (d.tag, bits_of d.body)
unfolding descr_read read_generic fits are_within
generic_again laws d small is short =
    let h : Holding = record { head = number d.tag ∷ bytes d.body ∷ []; items = [] } in
    let fit : fits generic_rows h.head ≡ true = rw (lt-ltb d.tag 256 small, is) refl in
    let least = le-leb 0 (length d.body) (omega arith) in
    let inside : are_within generic_rows h.head ≡ true = rw (least, le-leb (length d.body) 255 short) refl in
    let fit_page : page_fits generic_page h ≡ true = rw fit refl in
    rw (laws.name generic_rows generic_name None h.head refl, holding_again laws generic_page h refl refl inside fit_page) refl

shown_by_page : Laws → (d : TaggedBody) (page : Option Page) → d.tag < 256 → are_bytes d.body ≡ true
    → length d.body ≤ 255 → page_of d.tag ≡ page
    → descr_read (shown_by (by_page page groups_of form_of d.body) d) ≡ Ok (d.tag, bits_of d.body)
shown_by_page laws d None small is short found = generic_again laws d small is short
shown_by_page laws d (Some p) small is short found =
    go (page_shown p (groups_of p.tag) (form_of p.tag) (bits_of d.body)) refl
  where
    go : (read : Option Data) → page_shown p (groups_of p.tag) (form_of p.tag) (bits_of d.body) ≡ read → descr_read (shown_by read d) ≡ Ok (d.tag, bits_of d.body)
    go None read = generic_again laws d small is short
    go (Some x) read = typed_again laws d p x short found read

shown_by_extension : Laws → (d : TaggedBody) (tag : ℕ) (row : List ℕ) (page : Option Page) → d.body ≡ tag ∷ row
    → d.tag ≡ extension_tag → d.tag < 256 → are_bytes d.body ≡ true → length d.body ≤ 255 → extension_of tag ≡ page
    → descr_read (shown_by (by_page page extension_groups_of no_form row) d) ≡ Ok (d.tag, bits_of d.body)
shown_by_extension laws d tag row None body id small is short found = generic_again laws d small is short
shown_by_extension laws d tag row (Some p) body id small is short found =
    go (page_shown p (extension_groups_of p.tag) None (bits_of row)) refl
  where
    go : (read : Option Data) → page_shown p (extension_groups_of p.tag) None (bits_of row) ≡ read → descr_read (shown_by read d) ≡ Ok (d.tag, bits_of d.body)
    go None read = generic_again laws d small is short
    go (Some x) read = extension_again laws d tag row p x body id short found read

extension_shown : Laws → (d : TaggedBody) (body : List ℕ) → d.body ≡ body → d.tag ≡ extension_tag → d.tag < 256
    → are_bytes d.body ≡ true → length d.body ≤ 255
    → descr_read (shown_by (extension_typed body) d) ≡ Ok (d.tag, bits_of d.body)
extension_shown laws d [] body id small is short = generic_again laws d small is short
extension_shown laws d (tag ∷ row) body id small is short =
    shown_by_extension laws d tag row (extension_of tag) body id small is short refl

-- every descriptor that is shown is read again
pub descr_again : Laws → (d : TaggedBody) → d.tag < 256 → are_bytes d.body ≡ true → length d.body ≤ 255
    → descr_read (descr_shown d) ≡ Ok (d.tag, bits_of d.body)
descr_again laws d small is short = go (nat_eq d.tag extension_tag) refl
  where
    go : (b : Bool) → nat_eq d.tag extension_tag ≡ b → descr_read (shown_by (if b then extension_typed d.body else by_page (page_of d.tag) groups_of form_of d.body) d) ≡ Ok (d.tag, bits_of d.body)
    go true at = extension_shown laws d d.body refl (eqb-true d.tag extension_tag at) small is short
    go false at = shown_by_page laws d (page_of d.tag) small is short refl
