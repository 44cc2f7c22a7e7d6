-- Tables that are read have valid descriptors, and bytes below 256.
use Rattle.std.proofs.Common.{◌≡◌, ℕ, ◌+◌, ◌-◌, ◌*◌, ◌%◌, ◌^◌, ◌<◌, ◌≤◌, Bool, true, false, List, [], ◌∷◌, ◌++◌, length, refl, sym, ap, ◌∙◌, subst, arith}
use Rattle.std.specs.Prelude.{◌&&◌, ◌==◌, All, Option, Some, None, Result, Ok, Err, bytes_eq, codes, find, nat_le, nat_lt, option_to_list, if◌then◌else◌}
use Rattle.std.specs.List.{list_all}
use Rattle.std.proofs.lemmas.Bool.{and_from, cond_both, leb-true, lt-ltb, ltb-false, ltb-true}
use Rattle.std.proofs.lemmas.List.Elements.{All-append, All-cons, All-head, All-nil, All-tail}
use Rattle.std.proofs.lemmas.Option.{same_Some}
use Rattle.hex.specs.declared.error.FromHexError.{FromHexError}
use Rattle.hex.specs.Hex as hex
use Rattle.hex.specs.Hex.{decode_of, decode_pairs, digit_or_error, hex_digit_value, pair_value, value_at}
use Rattle.serde_json.specs.Data.{Data, Items, Members, item, no_items}
use Rattle.serde_json.specs.Find.{as_str, get_member}
use Rattle.ts_bits.specs.TaggedBody.{IsDescriptor, TaggedBody}
use Rattle.ts_fields.specs.declared.field.Kind.TheVariants.{Hex}
use Rattle.ts_fields.specs.Bits.{bits, bits_of}
use Rattle.ts_fields.specs.Bodies.{Holding, Page, spell_page}
use Rattle.ts_fields.specs.Fitting.{are_bytes}
use Rattle.ts_fields.specs.Layout.{Held, Row, bytes, number}
use Rattle.ts_jtree.specs.declared.fault.JsonKind.TheVariants.{OutOfRange, WrongKind}
use Rattle.ts_jtree.specs.Attributes.{attribute_of, data_attribute, hex_at, hex_attribute, holds_bytes, holds_number, number_attribute, ok_part, read_attributes}
use Rattle.ts_jtree.specs.Elements.{keys_known, members_of, name_key, name_of, named, no_children, nodes_of}
use Rattle.ts_jtree.specs.Faults.{Reading, at_child, or_refuse, refuse}
use Rattle.ts_json_descr.specs.DescrElements.{generic_name, generic_page, generic_rows}
use Rattle.ts_json_descr.specs.DescrReading as descrs
use Rattle.ts_json_descr.specs.DescrReading.{descr_read, read_by_page, read_extension, read_formed_holding, read_found, read_generic, read_holding, read_paged, read_typed, tagged}
use Rattle.ts_groups.specs.Groups.{Group, page_with}
use Rattle.ts_item_forms.specs.ItemForms.{Form, spell_formed}
use Rattle.ts_shown_pages.specs.Extensions.{extension_groups_of, extension_named, extension_tag}
use Rattle.ts_shown_pages.specs.Pages as descr_pages
use Rattle.ts_shown_pages.specs.Pages.{second_quarter, third_quarter, last_quarter}
use Rattle.ts_table_rows.specs.BodySpelling.{bytes_of}
use Rattle.ts_table_rows.specs.TablePages.{ItemPage, TablePage}
use Rattle.ts_table_rows.specs.TableSections.{Thing, item_thing, items_in, own_thing, owns_in}
use Rattle.ts_table_rows.specs.TableValues.{ItemHolding}
use Rattle.ts_table_pages.specs.PatEntries.{entry_item, network_items}
use Rattle.ts_json_tables.specs.ElementRows.{element_rows, long_name, long_rows, payload_row, private_row, section_name, section_rows, short_name, short_rows, table_id_row}
use Rattle.ts_json_tables.specs.HeadReading.{names_eit, names_network, only_bytes, read_bytes, read_heading, read_number, read_truth}
use Rattle.ts_json_tables.specs.HeldTables.{TableValue, laid}
use Rattle.ts_json_tables.specs.KnownPages.{page_named}
use Rattle.ts_json_tables.specs.ValidTables.{IsOfBytes, IsTable}
use Rattle.ts_json_tables.specs.TableReading.{has_own, holding_of, parted, read_by_name, read_child, read_descr, read_described, read_each, read_item, read_known, read_laid, read_long, read_long_head, read_named, read_own, read_section, read_short, sections_counted, table_read}
use Rattle.ts_json_tables.proofs.ValidEnd.{name_valid}
use Rattle.ts_json_tables.proofs.ValidLemmas.{data_small, first_of}
use Rattle.ts_json_tables.proofs.MadeBodies.{Spelled, bytes_length}
use Rattle.ts_json_tables.proofs.MadeSections.{small_bytes}
use Rattle.ts_json_tables.proofs.NumberLemmas.{number_small}
use Rattle.ts_json_tables.proofs.ReadLemmas.{each_all}
use Rattle.ts_json_tables.proofs.ShortValid.{short_named_bytes}
use Rattle.ts_json_tables.proofs.StepLemmas.{both, child_ok, same_ok, then_ok}

-- ---- hexadecimal digits write bytes

then_hex : {A B P : Type 0} (r : Result A FromHexError) (next : A → Result B FromHexError) (y : B) → (hex.◌>>=◌ r next) ≡ Ok y
    → ((x : A) → r ≡ Ok x → next x ≡ Ok y → P) → P
then_hex (Ok x) next y is goal = goal x refl is
then_hex (Err fault) next y is goal = cc

same_hex : {A : Type 0} (x y : A) → ◌≡◌ {A = Result A FromHexError} (Ok x) (Ok y) → x ≡ y
same_hex x y is = cc

below_16 : (n v : ℕ) → n < 16 → ◌≡◌ {A = Option ℕ} (Some n) (Some v) → v < 16
below_16 n v small is = subst (λ k. k < 16) (same_Some n v is) small

digit_small : (c v : ℕ) → hex_digit_value c ≡ Some v → v < 16
digit_small c v =
    cond_both (nat_le 65 c && nat_le c 70) _ _ (λ (o : Option ℕ). o ≡ Some v → v < 16)
    (λ upper. below_16 (c - 55) v (let parts = both (nat_le 65 c) (nat_le c 70) upper in let most = leb-true c 70 parts.1 in omega (arith, most)))
    (λ other. cond_both (nat_le 97 c && nat_le c 102) _ _ (λ (o : Option ℕ). o ≡ Some v → v < 16)
    (λ lower. below_16 (c - 87) v (let parts = both (nat_le 97 c) (nat_le c 102) lower in let most = leb-true c 102 parts.1 in omega (arith, most)))
    (λ neither. cond_both (nat_le 48 c && nat_le c 57) _ _ (λ (o : Option ℕ). o ≡ Some v → v < 16)
    (λ digit. below_16 (c - 48) v (let parts = both (nat_le 48 c) (nat_le c 57) digit in let most = leb-true c 57 parts.1 in omega (arith, most)))
    (λ none is. cc)))

value_small : (c i v : ℕ) → value_at c i ≡ Ok v → v < 16
value_small c i v is = go (hex_digit_value c) refl is
  where
    go : (o : Option ℕ) → hex_digit_value c ≡ o → digit_or_error c i o ≡ Ok v → v < 16
    go (Some n) at told = digit_small c v (at ∙ ap Some (same_hex n v told))
    go None at told = cc

pair_small : (high low i byte : ℕ) → pair_value high low i ≡ Ok byte → byte < 256
pair_small high low i byte is =
    then_hex (value_at high i) _ byte is (λ h one later.
    then_hex (value_at low (i + 1)) _ byte later (λ l two joins.
    let same : h * 16 + l ≡ byte = same_hex _ byte joins in
    omega (arith, same, value_small high i h one, value_small low (i + 1) l two)))

pairs_bytes : (i : ℕ) (text row : List ℕ) → decode_pairs i text ≡ Ok row → are_bytes row ≡ true
unfolding decode_pairs
pairs_bytes i [] row is = ap are_bytes (sym (same_hex [] row is))
pairs_bytes i (digit ∷ []) row is = cc
pairs_bytes i (high ∷ low ∷ text) row is =
    then_hex (pair_value high low i) _ row is (λ byte one later.
    then_hex (decode_pairs (i + 2) text) _ row later (λ more two joins.
    ap are_bytes (sym (same_hex (byte ∷ more) row joins))
    ∙ and_from (nat_lt byte 256) (are_bytes more) (lt-ltb byte 256 (pair_small high low i byte one)) (pairs_bytes (i + 2) text more two)))

decoded_bytes : (text row : List ℕ) → decode_of text ≡ Ok row → are_bytes row ≡ true
decoded_bytes text row = cond_both (length text % 2 == 1) _ _ (λ (r : Result (List ℕ) FromHexError). r ≡ Ok row → are_bytes row ≡ true) (λ odd is. cc) (λ even is. pairs_bytes 0 text row is)

ok_there : (r : Result (List ℕ) FromHexError) (row : List ℕ) → ok_part r ≡ Some row → r ≡ Ok row
ok_there (Ok x) row is = ap Ok (same_Some x row is)
ok_there (Err fault) row is = cc

given : {A : Type 0} (o : Option A) (key : List ℕ) (x : A) → or_refuse o key WrongKind ≡ Ok x → o ≡ Some x
given (Some y) key x is = ap Some (same_ok y x is)
given None key x is = cc

hex_bytes : (key : List ℕ) (o : Option Data) (row : List ℕ) → hex_at key o ≡ Ok row → are_bytes row ≡ true
hex_bytes key None row is = ap are_bytes (sym (same_ok [] row is))
hex_bytes key (Some value) row is =
    then_ok (or_refuse (as_str value) key WrongKind) _ row is (λ text was later.
    decoded_bytes text row (ok_there (decode_of text) row (given (ok_part (decode_of text)) key row later)))

data_bytes : (range : Option (ℕ × ℕ)) (key : List ℕ) (ms : Members) (row : List ℕ) → data_attribute range key ms ≡ Ok row → are_bytes row ≡ true
unfolding data_attribute hex_attribute
data_bytes range key ms row is =
    then_ok (hex_attribute key ms) _ row is (λ b was later.
    ap are_bytes (sym (passed _ b row later)) ∙ hex_bytes key (get_member key ms) b was)
  where
    passed : (t : Bool) (b row : List ℕ) → (if t then Ok b else refuse key OutOfRange) ≡ Ok row → b ≡ row
    passed true b row is = same_ok b row is
    passed false b row is = cc

payload_bytes : (most : ℕ) (ms : Members) (row : List ℕ) → read_bytes (payload_row most) ms ≡ Ok row → are_bytes row ≡ true
unfolding read_bytes read_attributes attribute_of
payload_bytes most ms row is =
    first_of (are_bytes row ≡ true) (payload_row most) ms only_bytes row is (λ values was made.
    then_ok (holds_bytes (data_attribute (Some (0, most)) (codes "payload") ms)) _ values was (λ v had joins.
    then_ok (data_attribute (Some (0, most)) (codes "payload") ms) _ v had (λ b a b1.
    let v_is : Some (bytes b) ≡ v = same_ok _ _ b1 in
    let values_is : option_to_list v ++ [] ≡ values = same_ok _ _ joins in
    let same : b ≡ row = ap (λ w. only_bytes (option_to_list w ++ [])) v_is ∙ ap only_bytes values_is ∙ made in
    ap are_bytes (sym same) ∙ data_bytes (Some (0, most)) (codes "payload") ms b a)))

-- ---- tables given by their bytes

short_bytes : (ms : Members) (t : TableValue) → read_short ms ≡ Ok t → IsOfBytes t
unfolding read_short
short_bytes ms t is =
    then_ok (keys_known short_rows ms ms) _ t is (λ w a1 b1.
    then_ok (read_number (table_id_row (0, 254)) ms) _ t b1 (λ id a2 b2.
    then_ok (read_truth private_row ms) _ t b2 (λ own a3 b3.
    then_ok (read_bytes (payload_row 4093) ms) _ t b3 (λ payload a4 b4.
    then_ok (nodes_of ms) _ t b4 (λ nodes a5 b5.
    then_ok (no_children nodes) _ t b5 (λ none a6 b6.
    subst IsOfBytes (same_ok _ t b6) (payload_bytes 4093 ms payload a4)))))))

section_bytes : (value : Data) (row : List ℕ) → read_section value ≡ Ok row → are_bytes row ≡ true
unfolding read_section
section_bytes value row is =
    then_ok (members_of value) _ row is (λ ms a1 b1.
    then_ok (name_of ms) _ row b1 (λ n a2 b2.
    then_ok (named section_name n) _ row b2 (λ u a3 b3.
    then_ok (keys_known section_rows ms ms) _ row b3 (λ w a4 b4.
    then_ok (read_bytes (payload_row 4084) ms) _ row b4 (λ payload a5 b5.
    then_ok (nodes_of ms) _ row b5 (λ nodes a6 b6.
    then_ok (no_children nodes) _ row b6 (λ none a7 b7.
    ap are_bytes (sym (same_ok payload row b7)) ∙ payload_bytes 4084 ms payload a5)))))))

long_bytes : (ms : Members) (t : TableValue) → read_long ms ≡ Ok t → IsOfBytes t
unfolding read_long
long_bytes ms t is =
    then_ok (keys_known (long_rows (names_eit ms)) ms ms) _ t is (λ w a1 b1.
    then_ok (read_long_head (names_eit ms) ms) _ t b1 (λ l a2 b2.
    then_ok (nodes_of ms) _ t b2 (λ nodes a3 b3.
    then_ok (sections_counted (names_eit ms) nodes) _ t b3 (λ counted a4 b4.
    then_ok (read_each read_section 0 counted) _ t b4 (λ rows a5 b5.
    subst IsOfBytes (same_ok _ t b5) (each_all read_section are_bytes 0 counted rows section_bytes a5))))))

-- ---- descriptors

-- a tag of 8 bits, and the bits of at most 255 bytes
abbrev IsSized : ℕ × List Bool → Type 0
IsSized y = (y.0 < 256) × (length y.1 ≤ 2040)

sized_by : (t : Bool) (tag : ℕ) (body : List Bool) (y : ℕ × List Bool) → nat_lt 2040 (length body) ≡ t → tag < 256
    → (if t then refuse name_key OutOfRange else Ok (tag, body)) ≡ Ok y → IsSized y
sized_by true tag body y at small is = cc
sized_by false tag body y at small is = subst IsSized (same_ok (tag, body) y is) (small, ltb-false 2040 (length body) at)

found_small : (test : Page → Bool) (ps : List Page) (p : Page) → list_all (λ q. nat_lt q.tag 256) ps ≡ true → find test ps ≡ Some p → p.tag < 256
found_small test [] p all found = cc
found_small test (q ∷ ps) p all found =
    let parts = both (nat_lt q.tag 256) (list_all (λ r. nat_lt r.tag 256) ps) all in
    by_test (test q) found (ltb-true q.tag 256 parts.0) (found_small test ps p parts.1)
  where
    by_test : (b : Bool) → (if b then Some q else find test ps) ≡ Some p → q.tag < 256 → (find test ps ≡ Some p → p.tag < 256) → p.tag < 256
    by_test true found here later = subst (λ (x : Page). x.tag < 256) (same_Some q p found) here
    by_test false found here later = later found

-- the tags of all pages are bytes
tags_small : list_all (λ q. nat_lt q.tag 256) descr_pages.pages ≡ true
unfolding second_quarter third_quarter last_quarter
tags_small = refl

typed_sized : (p : Page) (ms : Members) (y : ℕ × List Bool) → p.tag < 256 → read_typed p ms ≡ Ok y → IsSized y
unfolding read_typed
typed_sized p ms y small is =
    then_ok (read_holding p ms) _ y is (λ h was later.
    sized_by (nat_lt 2040 (length (spell_page p h))) p.tag (spell_page p h) y refl small later)

paged_sized : (p : Page) (groups : Option (List Group)) (ms : Members) (y : ℕ × List Bool) → p.tag < 256
    → read_paged p groups ms ≡ Ok y → IsSized y
paged_sized p None ms y small is = typed_sized p ms y small is
paged_sized p (Some groups) ms y small is =
    then_ok (read_attributes p.head ms) _ y is (λ first was later. typed_sized (page_with p groups first) ms y small later)

formed_sized : (p : Page) (f : Form) (ms : Members) (y : ℕ × List Bool) → p.tag < 256 → descrs.read_formed p f ms ≡ Ok y → IsSized y
unfolding descrs.read_formed
formed_sized p f ms y small is =
    then_ok (read_formed_holding p f ms) _ y is (λ h was later.
    sized_by (nat_lt 2040 (length (spell_formed p h))) p.tag (spell_formed p h) y refl small later)

page_sized : (p : Page) (groups : Option (List Group)) (form : Option Form) (ms : Members) (y : ℕ × List Bool) → p.tag < 256
    → read_by_page p groups form ms ≡ Ok y → IsSized y
page_sized p groups None ms y small is = paged_sized p groups ms y small is
page_sized p groups (Some f) ms y small is = formed_sized p f ms y small is

-- an extension descriptor, whichever its page
extension_sized : (o : Option Page) (ms : Members) (y : ℕ × List Bool) → read_extension o ms ≡ Ok y → IsSized y
extension_sized None ms y is = cc
extension_sized (Some p) ms y is =
    then_ok (read_paged p (extension_groups_of p.tag) ms) _ y is (λ x was later.
    let body = bits 8 x.0 ++ x.1 in
    sized_by (nat_lt 2040 (length body)) extension_tag body y refl (omega arith) later)

-- the row of the bytes of a generic element
abbrev generic_data : Row
generic_data = record { name = codes "data"; kind = Hex; absent = None; range = Some (0, 255) }

-- the values of a tag and bytes
tagged_sized : Spelled → (ms : Members) (values : List Held) (y : ℕ × List Bool) → read_attributes generic_rows ms ≡ Ok values → tagged values ≡ Ok y → IsSized y
unfolding read_attributes attribute_of
tagged_sized law ms values y is told =
    then_ok (holds_number (number_attribute None None (2 ^ 8 - 1) (codes "tag") ms)) _ values is (λ v1 had1 later1.
    then_ok (number_attribute None None (2 ^ 8 - 1) (codes "tag") ms) _ v1 had1 (λ n was1 c1.
    then_ok (read_attributes (generic_data ∷ []) ms) _ values later1 (λ more was2 c2.
    then_ok (holds_bytes (data_attribute (Some (0, 255)) (codes "data") ms)) _ more was2 (λ v2 had2 later2.
    then_ok (data_attribute (Some (0, 255)) (codes "data") ms) _ v2 had2 (λ b was3 c3.
    let v1_is : Some (number n) ≡ v1 = same_ok _ _ c1 in
    let v2_is : Some (bytes b) ≡ v2 = same_ok _ _ c3 in
    let more_is : option_to_list v2 ++ [] ≡ more = same_ok _ _ later2 in
    let values_is : option_to_list v1 ++ more ≡ values = same_ok _ _ c2 in
    let same : number n ∷ bytes b ∷ [] ≡ values =
    ap (λ v. option_to_list (Some (number n)) ++ (option_to_list v ++ [])) v2_is ∙ ap (λ l. option_to_list (Some (number n)) ++ l) more_is ∙ ap (λ v. option_to_list v ++ more) v1_is ∙ values_is in
    let y_is : (n, bits_of b) ≡ y = same_ok (n, bits_of b) y (ap tagged same ∙ told) in
    let tag = number_small None None 8 (codes "tag") ms n (omega arith) refl was1 in
    let room = leb-true (length b) 255 (data_small 255 (codes "data") ms b was3) in
    subst IsSized y_is (omega (arith, tag), omega (arith, room, law.long b)))))))

generic_sized : Spelled → (ms : Members) (y : ℕ × List Bool) → read_generic ms ≡ Ok y → IsSized y
unfolding read_generic read_holding
generic_sized law ms y is =
    then_ok (read_holding generic_page ms) _ y is (λ h was told.
    then_ok (keys_known generic_rows ms ms) _ h was (λ w a1 b1.
    then_ok (read_attributes generic_rows ms) _ h b1 (λ values a2 b2.
    then_ok (nodes_of ms) _ h b2 (λ nodes a3 b3.
    then_ok (descrs.read_children None nodes) _ h b3 (λ items a4 b4.
    let same : values ≡ h.head = ap (λ (x : Holding). x.head) (same_ok _ h b4) in
    tagged_sized law ms values y a2 (ap tagged same ∙ told))))))

descr_sized : Spelled → (value : Data) (y : ℕ × List Bool) → descr_read value ≡ Ok y → IsSized y
unfolding descr_read
descr_sized law value y is =
    then_ok (members_of value) _ y is (λ ms a1 b1.
    then_ok (name_of ms) _ y b1 (λ name a2 b2. by_name ms name (bytes_eq name generic_name) b2))
  where
    typed : (ms : Members) (name : List ℕ) (o : Option Page) → descr_pages.page_named name ≡ o → read_found o name ms ≡ Ok y → IsSized y
    typed ms name None at read = extension_sized (extension_named name) ms y read
    typed ms name (Some p) at read =
        page_sized p (descr_pages.groups_of p.tag) (descr_pages.form_of p.tag) ms y (found_small (λ q. bytes_eq name q.name) descr_pages.pages p tags_small at) read

    by_name : (ms : Members) (name : List ℕ) (b : Bool) → (if b then read_generic ms else read_found (descr_pages.page_named name) name ms) ≡ Ok y → IsSized y
    by_name ms name true read = generic_sized law ms y read
    by_name ms name false read = typed ms name (descr_pages.page_named name) refl read

descr_is : Spelled → (value : Data) (d : TaggedBody) → read_descr value ≡ Ok d → IsDescriptor d
unfolding read_descr
descr_is law value d is =
    then_ok (descr_read value) _ d is (λ y was later.
    let sizes = descr_sized law value y was in
    let told = bytes_length law y.1 in
    subst (λ (x : TaggedBody). IsDescriptor x) (same_ok _ d later) (record {
      tag = sizes.0;
      room = omega (arith, told.0, sizes.1);
      bytes = small_bytes (bytes_of y.1) told.1;
    }))

-- ---- tables of a page

each_every : {A : Type 0} (P : A → Type 0) (read : Data → Reading A) (place : ℕ) (nodes : Items) (xs : List A)
    → ((d : Data) (x : A) → read d ≡ Ok x → P x) → read_each read place nodes ≡ Ok xs → All P xs
unfolding read_each
each_every P read place no_items xs every is = subst (All P) (same_ok [] xs is) (All-nil P)
each_every P read place (item value more) xs every is =
    then_ok (at_child place (read value)) _ xs is (λ x was later.
    then_ok (read_each read (place + 1) more) _ xs later (λ others had joins.
    subst (All P) (same_ok (x ∷ others) xs joins)
    (All-cons P x others (every value x (child_ok place (read value) x was)) (each_every P read (place + 1) more others every had))))

abbrev IsDescribed : Thing → Type 0
IsDescribed (own_thing d) = IsDescriptor d
IsDescribed (item_thing x) = All (λ d. IsDescriptor d) x.descriptors

described_is : Spelled → (described : Bool) (nodes : Items) (ds : List TaggedBody) → read_described described nodes ≡ Ok ds → All (λ d. IsDescriptor d) ds
unfolding read_described
described_is law true nodes ds is = each_every (λ d. IsDescriptor d) read_descr 0 nodes ds (descr_is law) is
described_is law false nodes ds is =
    then_ok (no_children nodes) _ ds is (λ none was later. subst (All (λ d. IsDescriptor d)) (same_ok [] ds later) (All-nil (λ d. IsDescriptor d)))

item_is : Spelled → (i : ItemPage) (ms : Members) (x : ItemHolding) → read_item i ms ≡ Ok x → All (λ d. IsDescriptor d) x.descriptors
unfolding read_item
item_is law i ms x is =
    then_ok (keys_known i.rows ms ms) _ x is (λ w a1 b1.
    then_ok (read_attributes i.rows ms) _ x b1 (λ values a2 b2.
    then_ok (nodes_of ms) _ x b2 (λ nodes a3 b3.
    then_ok (read_described i.described nodes) _ x b3 (λ ds a4 b4.
    subst (λ (y : ItemHolding). All (λ d. IsDescriptor d) y.descriptors) (same_ok _ x b4) (described_is law i.described nodes ds a4)))))

own_is : Spelled → (own : Bool) (value : Data) (t : Thing) → read_own own value ≡ Ok t → IsDescribed t
unfolding read_own
own_is law false value t is = cc
own_is law true value t is =
    then_ok (read_descr value) _ t is (λ d was later. subst IsDescribed (same_ok (own_thing d) t later) (descr_is law value d was))

named_is : Spelled → (i : Option ItemPage) (own : Bool) (name : List ℕ) (ms : Members) (value : Data) (t : Thing) → read_named i own name ms value ≡ Ok t → IsDescribed t
unfolding read_named
named_is law None own name ms value t is = own_is law own value t is
named_is law (Some i) own name ms value t read =
    cond_both (bytes_eq name i.name) _ _ (λ (r : Reading Thing). r ≡ Ok t → IsDescribed t)
    (λ named is. then_ok (read_item i ms) _ t is (λ x was later. subst IsDescribed (same_ok (item_thing x) t later) (item_is law i ms x was)))
    (λ other is. own_is law own value t is)
    read

child_is : Spelled → (p : TablePage) (value : Data) (t : Thing) → read_child p value ≡ Ok t → IsDescribed t
unfolding read_child
child_is law p value t is =
    then_ok (members_of value) _ t is (λ ms a1 b1.
    then_ok (name_of ms) _ t b1 (λ name a2 b2. named_is law p.items (has_own p.loop_form) name ms value t b2))

owns_are : (things : List Thing) → All IsDescribed things → All (λ d. IsDescriptor d) (owns_in things)
owns_are [] all = All-nil (λ d. IsDescriptor d)
owns_are (own_thing d ∷ things) all =
    All-cons (λ x. IsDescriptor x) d (owns_in things) (All-head IsDescribed (own_thing d) things all) (owns_are things (All-tail IsDescribed (own_thing d) things all))
owns_are (item_thing x ∷ things) all = owns_are things (All-tail IsDescribed (item_thing x) things all)

abbrev ItemDescribed : ItemHolding → Type 0
ItemDescribed x = All (λ d. IsDescriptor d) x.descriptors

items_are : (things : List Thing) → All IsDescribed things → All ItemDescribed (items_in things)
items_are [] all = All-nil ItemDescribed
items_are (own_thing d ∷ things) all = items_are things (All-tail IsDescribed (own_thing d) things all)
items_are (item_thing x ∷ things) all =
    All-cons ItemDescribed x (items_in things) (All-head IsDescribed (item_thing x) things all) (items_are things (All-tail IsDescribed (item_thing x) things all))

network_are : (n : Option ℕ) → All ItemDescribed (network_items n)
network_are None = All-nil ItemDescribed
network_are (Some pid) = All-cons ItemDescribed (entry_item 0 pid) [] (All-nil (λ d. IsDescriptor d)) (All-nil ItemDescribed)

laid_bytes : Spelled → (p : TablePage) (ms : Members) (t : TableValue) → read_laid p ms ≡ Ok t → IsOfBytes t
unfolding read_laid
laid_bytes law p ms t is =
    then_ok (keys_known (element_rows p (names_network p.one_zero ms)) ms ms) _ t is (λ w a1 b1.
    then_ok (read_heading p ms) _ t b1 (λ h a2 b2.
    then_ok (nodes_of ms) _ t b2 (λ nodes a3 b3.
    then_ok (parted (read_each (read_child p) 0 nodes)) _ t b3 (λ children a4 b4.
    then_ok (read_each (read_child p) 0 nodes) _ children a4 (λ things a5 b5.
    let all = each_every IsDescribed (read_child p) 0 nodes things (child_is law p) a5 in
    subst IsOfBytes (ap (λ c. laid p (holding_of h c)) (same_ok _ children b5) ∙ same_ok _ t b4) (record {
      own = owns_are things all;
      items = All-append ItemDescribed (network_items h.network) (items_in things) (network_are h.network) (items_are things all);
    }))))))

named_bytes : Spelled → (name : List ℕ) (ms : Members) (t : TableValue) → read_by_name name ms ≡ Ok t → IsOfBytes t
named_bytes law name ms t is = go (bytes_eq name short_name) (bytes_eq name long_name) is
  where
    known : (o : Option TablePage) → read_known o name ms ≡ Ok t → IsOfBytes t
    known None read = short_named_bytes law name ms t read
    known (Some p) read = laid_bytes law p ms t read

    go : (a b : Bool) → (if a then read_short ms else if b then read_long ms else read_known (page_named name) name ms) ≡ Ok t → IsOfBytes t
    go true b read = short_bytes ms t read
    go false true read = long_bytes ms t read
    go false false read = known (page_named name) read

pub read_valid : Spelled → (value : Data) (t : TableValue) → table_read value ≡ Ok t → IsTable t × IsOfBytes t
unfolding table_read
read_valid law value t is =
    then_ok (members_of value) _ t is (λ ms a1 b1.
    then_ok (name_of ms) _ t b1 (λ name a2 b2. (name_valid name ms t b2, named_bytes law name ms t b2)))
