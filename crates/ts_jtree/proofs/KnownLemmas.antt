-- An element that is shown has its name, only known keys, its values and its children.
use Rattle.std.proofs.Common.{◌≡◌, ℕ, Bool, true, false, List, [], ◌∷◌, drop, refl, ap, ◌∙◌, Ordering, Less, Equal, Greater}
use Rattle.std.specs.Prelude.{nat_eq, Option, Some, None, Ok, Err, slice_get, bytes_eq, not, ◌&&◌, if◌then◌else◌, is_none}
use Rattle.std.specs.Ordering.{nat_cmp, match_ordering}
use Rattle.std.specs.Cmp.Lexicographic.{slice_cmp}
use Rattle.hex.specs.Hex.{encode_lower}
use Rattle.serde_json.specs.Data.{Data, string, Members, no_members, member, put}
use Rattle.serde_json.specs.Find.{get_member}
use Rattle.serde_json.proofs.Views.{get_member-put, get_member-put_other}
use Rattle.ts_fields.specs.declared.field.Kind.{Kind}
use Rattle.ts_fields.specs.declared.field.Kind.TheVariants.{Number, Reserved, Zeros, Ones, Free, Flag, Start, Duration, Decimal, Language, CountedText, Text, CountedHex, Hex}
use Rattle.ts_fields.specs.Layout as layout
use Rattle.ts_fields.specs.Layout.{Row, Held}
use Rattle.ts_fields.specs.Spelling.{holds}
use Rattle.ts_fields.specs.Texts.{text_of}
use Rattle.ts_charsets.specs.TextTables.{tabled_text}
use Rattle.ts_jtree.specs.declared.fault.JsonFault.{JsonFault}
use Rattle.ts_jtree.specs.Attributes.{hex_key, table_key}
use Rattle.ts_jtree.specs.Elements.{is_known, keys_known, name_key, name_of, names_field, names_some, names_text, nodes_key}
use Rattle.ts_jtree.specs.Faults.{Reading}
use Rattle.ts_jtree.specs.Shown.{are_ones, element_base, element_members, is_key, is_key_of, keys_differ, put_attribute, put_attributes, put_text_of, rows_show}
use Rattle.ts_jtree.proofs.AgainLemmas.{apart_of, differ, later_key, longer, others_kept, rows_kept, self_key, table_longer}
use Rattle.ts_jtree.proofs.RowLemmas.{both, first_true, not_true, second_true}

-- ---- members that are put are known

known_first : (b : Bool) (rest : Reading (List ℕ)) (fault : JsonFault) → (if b then rest else Err fault) ≡ Ok []
    → (b ≡ true) × (rest ≡ Ok [])
known_first true rest fault is = (refl, is)
known_first false rest fault is = cc

by_order : (o : Ordering) (rs : List Row) (ms : Members) (key l : List ℕ) (v e : Data) (ns : Members)
    → is_known rs ms key ≡ true → is_known rs ms l ≡ true → keys_known rs ms ns ≡ Ok []
    → keys_known rs ms (put key v ns) ≡ Ok []
    → keys_known rs ms (match_ordering o (member key v (member l e ns)) (member l v ns) (member l e (put key v ns)))
    ≡ Ok []
unfolding keys_known
by_order Less rs ms key l v e ns known old so_far more = rw (known, old) so_far
by_order Equal rs ms key l v e ns known old so_far more = rw old so_far
by_order Greater rs ms key l v e ns known old so_far more = rw old more

known_put : (rs : List Row) (ms : Members) (key : List ℕ) (v : Data) (ns : Members) → is_known rs ms key ≡ true
    → keys_known rs ms ns ≡ Ok [] → keys_known rs ms (put key v ns) ≡ Ok []
unfolding keys_known
known_put rs ms key v no_members known so_far = rw known refl
known_put rs ms key v (member l e ns) known so_far =
    let parts = known_first (is_known rs ms l) (keys_known rs ms ns) _ so_far in
    by_order (slice_cmp nat_cmp key l) rs ms key l v e ns known parts.0 parts.1 (known_put rs ms key v ns known parts.1)

-- the keys of a field are known
abbrev Names : List Row → Members → Kind → List ℕ → Type 0
Names rs ms k name = (key : List ℕ) → names_field k name ms key ≡ true → is_known rs ms key ≡ true

known_text : (shown : Option (List ℕ)) (tabled : Option (List ℕ × List ℕ)) (rs : List Row) (ms : Members) (name b : List ℕ) (ns : Members)
    → ((key : List ℕ) → names_text name ms key ≡ true → is_known rs ms key ≡ true) → get_member name ns ≡ None
    → get_member name ms ≡ get_member name (put_text_of shown tabled name b ns) → keys_known rs ms ns ≡ Ok []
    → keys_known rs ms (put_text_of shown tabled name b ns) ≡ Ok []
known_text (Some text) tabled rs ms name b ns names none same so_far =
    known_put rs ms name (string text) ns (names name (rw (self_key name) refl)) so_far
known_text None (Some x) rs ms name b ns names none same so_far =
    let there : get_member name ms ≡ Some (string x.1) = same ∙ get_member-put_other name (table_key name) (string x.0) (put name (string x.1) ns) (table_longer name) ∙ get_member-put name (string x.1) ns in
    let named : names_text name ms (table_key name) ≡ true = second_true (bytes_eq (table_key name) name) _ (second_true (bytes_eq (table_key name) (hex_key name) && is_none (get_member name ms)) _ (rw (self_key (table_key name), there) refl)) in
    known_put rs ms (table_key name) (string x.0) (put name (string x.1) ns) (names (table_key name) named)
    (known_put rs ms name (string x.1) ns (names name (rw (self_key name) refl)) so_far)
known_text None None rs ms name b ns names none same so_far =
    let absent : get_member name ms ≡ None = same ∙ get_member-put_other name (hex_key name) (string (encode_lower b)) ns (longer name) ∙ none in
    let named : names_text name ms (hex_key name) ≡ true = second_true (bytes_eq (hex_key name) name) _ (rw (self_key (hex_key name), absent) refl) in
    known_put rs ms (hex_key name) (string (encode_lower b)) ns (names (hex_key name) named) so_far

known_unless : (test : Bool) (rs : List Row) (ms : Members) (key : List ℕ) (v : Data) (ns : Members)
    → is_known rs ms key ≡ true → keys_known rs ms ns ≡ Ok [] → keys_known rs ms (if test then ns else put key v ns) ≡ Ok []
known_unless true rs ms key v ns known so_far = so_far
known_unless false rs ms key v ns known so_far = known_put rs ms key v ns known so_far

known_attribute : (rs : List Row) (ms : Members) (k : Kind) (name : List ℕ) (value : Option Held) (ns : Members)
    → Names rs ms k name → (is_key_of k name name ≡ true → get_member name ns ≡ None)
    → (is_key_of k name name ≡ true → get_member name ms ≡ get_member name (put_attribute k name value ns))
    → keys_known rs ms ns ≡ Ok [] → keys_known rs ms (put_attribute k name value ns) ≡ Ok []
unfolding put_attribute
known_attribute rs ms (Ones count) name value ns names none same so_far = so_far
known_attribute rs ms (Free count) name value ns names none same so_far = so_far
known_attribute rs ms (Number count) name None ns names none same so_far = so_far
known_attribute rs ms (Number count) name (Some (layout.number n)) ns names none same so_far =
    known_put rs ms name _ ns (names name (self_key name)) so_far
known_attribute rs ms (Number count) name (Some (layout.bytes b)) ns names none same so_far = so_far
known_attribute rs ms (Reserved count) name None ns names none same so_far = so_far
known_attribute rs ms (Zeros count) name None ns names none same so_far = so_far
known_attribute rs ms (Reserved count) name (Some (layout.number n)) ns names none same so_far =
    known_unless (are_ones count n) rs ms name _ ns (names name (self_key name)) so_far
known_attribute rs ms (Zeros count) name (Some (layout.number n)) ns names none same so_far =
    known_unless (nat_eq n 0) rs ms name _ ns (names name (self_key name)) so_far
known_attribute rs ms (Reserved count) name (Some (layout.bytes b)) ns names none same so_far = so_far
known_attribute rs ms (Zeros count) name (Some (layout.bytes b)) ns names none same so_far = so_far
known_attribute rs ms Flag name None ns names none same so_far = so_far
known_attribute rs ms Flag name (Some (layout.number n)) ns names none same so_far =
    known_put rs ms name _ ns (names name (self_key name)) so_far
known_attribute rs ms Flag name (Some (layout.bytes b)) ns names none same so_far = so_far
known_attribute rs ms Start name None ns names none same so_far = so_far
known_attribute rs ms Start name (Some (layout.number n)) ns names none same so_far =
    known_put rs ms name _ ns (names name (self_key name)) so_far
known_attribute rs ms Start name (Some (layout.bytes b)) ns names none same so_far = so_far
known_attribute rs ms Duration name None ns names none same so_far = so_far
known_attribute rs ms Duration name (Some (layout.number n)) ns names none same so_far =
    known_put rs ms name _ ns (names name (self_key name)) so_far
known_attribute rs ms Duration name (Some (layout.bytes b)) ns names none same so_far = so_far
known_attribute rs ms (Decimal digits) name None ns names none same so_far = so_far
known_attribute rs ms (Decimal digits) name (Some (layout.number n)) ns names none same so_far =
    known_put rs ms name _ ns (names name (self_key name)) so_far
known_attribute rs ms (Decimal digits) name (Some (layout.bytes b)) ns names none same so_far = so_far
known_attribute rs ms Language name None ns names none same so_far = so_far
known_attribute rs ms Language name (Some (layout.number n)) ns names none same so_far = so_far
known_attribute rs ms Language name (Some (layout.bytes b)) ns names none same so_far =
    known_put rs ms name _ ns (names name (self_key name)) so_far
known_attribute rs ms CountedText name None ns names none same so_far = so_far
known_attribute rs ms CountedText name (Some (layout.number n)) ns names none same so_far = so_far
known_attribute rs ms CountedText name (Some (layout.bytes b)) ns names none same so_far =
    known_text (text_of b) (tabled_text b) rs ms name b ns names (none (rw (self_key name) refl)) (same (rw (self_key name) refl)) so_far
known_attribute rs ms Text name None ns names none same so_far = so_far
known_attribute rs ms Text name (Some (layout.number n)) ns names none same so_far = so_far
known_attribute rs ms Text name (Some (layout.bytes b)) ns names none same so_far =
    known_text (text_of b) (tabled_text b) rs ms name b ns names (none (rw (self_key name) refl)) (same (rw (self_key name) refl)) so_far
known_attribute rs ms Hex name None ns names none same so_far = so_far
known_attribute rs ms CountedHex name None ns names none same so_far = so_far
known_attribute rs ms Hex name (Some (layout.number n)) ns names none same so_far = so_far
known_attribute rs ms CountedHex name (Some (layout.number n)) ns names none same so_far = so_far
known_attribute rs ms Hex name (Some (layout.bytes b)) ns names none same so_far =
    known_put rs ms name _ ns (names name (self_key name)) so_far
known_attribute rs ms CountedHex name (Some (layout.bytes b)) ns names none same so_far =
    known_put rs ms name _ ns (names name (self_key name)) so_far

-- the keys of all fields that are shown
known_rows : (all : List Row) (final : Members) (rs : List Row) (values : List Held) (ns : Members)
    → keys_differ rs ≡ true
    → ((key : List ℕ) → names_some rs final key ≡ true → is_known all final key ≡ true)
    → ((key : List ℕ) → is_key rs key ≡ true → get_member key ns ≡ None)
    → ((key : List ℕ) → is_key rs key ≡ true → get_member key final ≡ get_member key (put_attributes rs values ns))
    → keys_known all final ns ≡ Ok [] → keys_known all final (put_attributes rs values ns) ≡ Ok []
unfolding put_attributes
known_rows all final [] values ns keys names none same so_far = so_far
known_rows all final (r ∷ rs) values ns keys names none same so_far =
    let k = r.kind in
    let first = slice_get values 0 in
    let others = drop (holds k) values in
    let now = put_attribute k r.name first ns in
    let apart = apart_of r rs keys in
    let here = known_attribute all final k r.name first ns (λ key is. names key (first_true _ _ is))
    (λ own. none r.name (first_true _ _ own))
    (λ own. same r.name (first_true _ _ own) ∙ rows_kept rs others now r.name apart.name) so_far in
    known_rows all final rs others now apart.rest (λ key is. names key (second_true _ _ is))
    (λ key later.
    others_kept k r.name first ns key (later_key r rs key (is_key_of k r.name key) refl later apart.name apart.hex apart.table)
    ∙ none key (second_true (is_key_of k r.name key) (is_key rs key) later))
    (λ key later. same key (second_true (is_key_of k r.name key) (is_key rs key) later)) here

-- ---- an element

base_name : (nodes : Option Data) (called : List ℕ)
    → get_member name_key (element_base called nodes) ≡ Some (string called)
base_name None called = get_member-put name_key (string called) no_members
base_name (Some v) called =
    get_member-put_other name_key nodes_key v (element_base called None) (differ name_key nodes_key refl)
    ∙ get_member-put name_key (string called) no_members

base_nodes : (nodes : Option Data) (called : List ℕ) → get_member nodes_key (element_base called nodes) ≡ nodes
base_nodes None called = get_member-put_other nodes_key name_key (string called) no_members (differ nodes_key name_key refl)
base_nodes (Some v) called = get_member-put nodes_key v (element_base called None)

base_none : (nodes : Option Data) (called key : List ℕ) → (key ≡ name_key → ⊥) → (key ≡ nodes_key → ⊥)
    → get_member key (element_base called nodes) ≡ None
base_none None called key one two = get_member-put_other key name_key (string called) no_members one
base_none (Some v) called key one two =
    get_member-put_other key nodes_key v (element_base called None) two
    ∙ get_member-put_other key name_key (string called) no_members one

base_known : (nodes : Option Data) (called : List ℕ) (rs : List Row) (ms : Members)
    → keys_known rs ms (element_base called nodes) ≡ Ok []
unfolding keys_known
base_known None called rs ms = refl
base_known (Some v) called rs ms = known_put rs ms nodes_key v (element_base called None) refl refl

-- rows whose keys are neither each other's nor the element's own
pub record Shows (rs : List Row) : Type 0 where
  pub keys : keys_differ rs ≡ true
  pub name : is_key rs name_key ≡ false
  pub nodes : is_key rs nodes_key ≡ false

pub shows_of : (rs : List Row) → rows_show rs ≡ true → Shows rs
shows_of rs is =
    let parts = both (keys_differ rs) (not (is_key rs name_key) && not (is_key rs nodes_key)) is in
    let own = both (not (is_key rs name_key)) (not (is_key rs nodes_key)) parts.1 in
    record { keys = parts.0; name = not_true _ own.0; nodes = not_true _ own.1 }

other_than : (rs : List Row) (key other : List ℕ) → is_key rs other ≡ false → is_key rs key ≡ true → key ≡ other → ⊥
other_than rs key other away is same = let e = ap (is_key rs) same in cc

pub none_there : (rs : List Row) (called : List ℕ) (nodes : Option Data) → Shows rs → (key : List ℕ)
    → is_key rs key ≡ true → get_member key (element_base called nodes) ≡ None
none_there rs called nodes s key is =
    base_none nodes called key (other_than rs key name_key s.name is) (other_than rs key nodes_key s.nodes is)

pub name_shown : (rs : List Row) (called : List ℕ) (nodes : Option Data) (values : List Held) → Shows rs
    → name_of (element_members rs called nodes values) ≡ Ok called
unfolding name_of
name_shown rs called nodes values s =
    let found = rows_kept rs values (element_base called nodes) name_key s.name ∙ base_name nodes called in
    rw found refl

pub children_shown : (rs : List Row) (called : List ℕ) (nodes : Option Data) (values : List Held) → Shows rs
    → get_member nodes_key (element_members rs called nodes values) ≡ nodes
children_shown rs called nodes values s =
    rows_kept rs values (element_base called nodes) nodes_key s.nodes ∙ base_nodes nodes called

pub keys_shown : (rs : List Row) (called : List ℕ) (nodes : Option Data) (values : List Held) → Shows rs
    → keys_known rs (element_members rs called nodes values) (element_members rs called nodes values) ≡ Ok []
keys_shown rs called nodes values s =
    let final = element_members rs called nodes values in
    known_rows rs final rs values (element_base called nodes) s.keys
    (λ key is. second_true _ _ (second_true _ _ is)) (none_there rs called nodes s) (λ key is. refl)
    (base_known nodes called rs final)
