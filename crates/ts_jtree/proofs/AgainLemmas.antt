-- Attributes that are shown are read again.
use Rattle.std.proofs.Common.{◌≡◌, ℕ, zero, suc, ◌+◌, ◌-◌, ◌^◌, ◌<◌, ◌≤◌, ◌⊎◌, inl, inr, Bool, true, false, List, [], ◌∷◌, ◌++◌, length, drop, refl, sym, ap, ◌∙◌, arith, length-append}
use Rattle.std.specs.Prelude.{nat_lt, nat_eq, ◌&&◌, ◌||◌, not, bytes_eq, Option, Some, None, Ok, option_to_list, slice_get, codes, if◌then◌else◌, option_and_then}
use Rattle.std.proofs.lemmas.Bool.{ltb-true, le-leb, eqb-true}
use Rattle.std.proofs.lemmas.Slice.Eq.{bytes_eq-Decides}
use Rattle.hex.specs.Hex.{encode_lower, IsBytes}
use Rattle.hex.proofs.HexLemmas.{decode_of-encode_lower}
use Rattle.serde_json.specs.Data.{Data, Members, put, boolean, string, number, unsigned}
use Rattle.serde_json.specs.Find.{get_member}
use Rattle.serde_json.proofs.Views.{get_member-put, get_member-put_other}
use Rattle.ts_fields.specs.declared.field.Kind.{Kind}
use Rattle.ts_fields.specs.declared.field.Kind.TheVariants.{Number, Reserved, Zeros, Ones, Free, Flag, Start, Duration, Decimal, Language, CountedText, Text, CountedHex, Hex}
use Rattle.ts_fields.specs.Fitting.{fits, field_fits, are_bytes}
use Rattle.ts_fields.specs.Layout as layout
use Rattle.ts_fields.specs.Layout.{Row, Held}
use Rattle.ts_fields.specs.Reading.{are_printable}
use Rattle.ts_fields.specs.Spelling.{holds}
use Rattle.ts_fields.specs.Texts.{text_of, text_bytes}
use Rattle.ts_charsets.specs.TextTables.{TextTable, bytes_by_table, table_named, tabled_bytes, tabled_text}
use Rattle.ts_fields.specs.Times.{is_start, is_time}
use Rattle.ts_days.specs.TimeTexts.{start_of, start_text, time_of, time_text}
use Rattle.ts_jtree.specs.Attributes.{attribute_of, data_attribute, duration_attribute, flag_attribute, hex_attribute, hex_key, language_attribute, number_attribute, number_in, read_attributes, table_key, start_attribute, tabled_at, text_at, text_attribute, within}
use Rattle.ts_jtree.specs.Numbers.{number_of, bit_of, truth_bit}
use Rattle.ts_jtree.specs.Shown.{are_ones, are_within, is_key, is_key_of, keys_differ, put_attribute, put_attributes, put_hex, put_text, put_text_of, value_within}
use Rattle.ts_jtree.proofs.RowLemmas.{both, neither, not_true, second_true}

pub differ : (q k : List ℕ) → bytes_eq q k ≡ false → q ≡ k → ⊥
differ q k other same = let equal = (bytes_eq-Decides q k).1 same in cc

pub self_key : (key : List ℕ) → bytes_eq key key ≡ true
self_key key = (bytes_eq-Decides key key).1 refl

pub longer : (key : List ℕ) → key ≡ hex_key key → ⊥
longer key same =
    let e : length key ≡ length key + 4 = ap length same ∙ length-append key (codes "_hex") in absurd (omega arith)

pub table_longer : (key : List ℕ) → key ≡ table_key key → ⊥
table_longer key same =
    let e : length key ≡ length key + 6 = ap length same ∙ length-append key (codes "_table") in absurd (omega arith)

-- ---- a field's attribute leaves the other keys

text_kept_by : (shown : Option (List ℕ)) (tabled : Option (List ℕ × List ℕ)) (name b : List ℕ) (ms : Members) (key : List ℕ)
    → (bytes_eq key name ≡ false) × (bytes_eq key (hex_key name) ≡ false) × (bytes_eq key (table_key name) ≡ false)
    → get_member key (put_text_of shown tabled name b ms) ≡ get_member key ms
text_kept_by (Some text) tabled name b ms key other = get_member-put_other key name (string text) ms (differ key name other.0)
text_kept_by None (Some x) name b ms key other =
    get_member-put_other key (table_key name) (string x.0) (put name (string x.1) ms) (differ key (table_key name) other.2)
    ∙ get_member-put_other key name (string x.1) ms (differ key name other.0)
text_kept_by None None name b ms key other =
    get_member-put_other key (hex_key name) (string (encode_lower b)) ms (differ key (hex_key name) other.1)

text_kept : (name b : List ℕ) (ms : Members) (key : List ℕ)
    → (bytes_eq key name || (bytes_eq key (hex_key name) || bytes_eq key (table_key name))) ≡ false
    → get_member key (put_text name b ms) ≡ get_member key ms
text_kept name b ms key other =
    let one = neither (bytes_eq key name) (bytes_eq key (hex_key name) || bytes_eq key (table_key name)) other in
    let two = neither (bytes_eq key (hex_key name)) (bytes_eq key (table_key name)) one.1 in
    text_kept_by (text_of b) (tabled_text b) name b ms key (one.0, two.0, two.1)

one_kept : (key name : List ℕ) (value : Data) (ms : Members) → bytes_eq key name ≡ false
    → get_member key (put name value ms) ≡ get_member key ms
one_kept key name value ms other = get_member-put_other key name value ms (differ key name other)

unless_kept : (test : Bool) (key name : List ℕ) (value : Data) (ms : Members) → bytes_eq key name ≡ false
    → get_member key (if test then ms else put name value ms) ≡ get_member key ms
unless_kept true key name value ms other = refl
unless_kept false key name value ms other = one_kept key name value ms other

pub others_kept : (k : Kind) (name : List ℕ) (value : Option Held) (ms : Members) (key : List ℕ)
    → is_key_of k name key ≡ false → get_member key (put_attribute k name value ms) ≡ get_member key ms
unfolding put_attribute
others_kept (Ones count) name value ms key other = refl
others_kept (Free count) name value ms key other = refl
others_kept (Number count) name None ms key other = refl
others_kept (Number count) name (Some (layout.number n)) ms key other = one_kept key name _ ms other
others_kept (Number count) name (Some (layout.bytes b)) ms key other = refl
others_kept (Reserved count) name None ms key other = refl
others_kept (Zeros count) name None ms key other = refl
others_kept (Reserved count) name (Some (layout.number n)) ms key other = unless_kept (are_ones count n) key name _ ms other
others_kept (Zeros count) name (Some (layout.number n)) ms key other = unless_kept (nat_eq n 0) key name _ ms other
others_kept (Reserved count) name (Some (layout.bytes b)) ms key other = refl
others_kept (Zeros count) name (Some (layout.bytes b)) ms key other = refl
others_kept Flag name None ms key other = refl
others_kept Flag name (Some (layout.number n)) ms key other = one_kept key name _ ms other
others_kept Flag name (Some (layout.bytes b)) ms key other = refl
others_kept Start name None ms key other = refl
others_kept Start name (Some (layout.number n)) ms key other = one_kept key name _ ms other
others_kept Start name (Some (layout.bytes b)) ms key other = refl
others_kept Duration name None ms key other = refl
others_kept Duration name (Some (layout.number n)) ms key other = one_kept key name _ ms other
others_kept Duration name (Some (layout.bytes b)) ms key other = refl
others_kept (Decimal digits) name None ms key other = refl
others_kept (Decimal digits) name (Some (layout.number n)) ms key other = one_kept key name _ ms other
others_kept (Decimal digits) name (Some (layout.bytes b)) ms key other = refl
others_kept Language name None ms key other = refl
others_kept Language name (Some (layout.number n)) ms key other = refl
others_kept Language name (Some (layout.bytes b)) ms key other = one_kept key name _ ms other
others_kept CountedText name None ms key other = refl
others_kept CountedText name (Some (layout.number n)) ms key other = refl
others_kept CountedText name (Some (layout.bytes b)) ms key other = text_kept name b ms key other
others_kept Text name None ms key other = refl
others_kept Text name (Some (layout.number n)) ms key other = refl
others_kept Text name (Some (layout.bytes b)) ms key other = text_kept name b ms key other
others_kept Hex name None ms key other = refl
others_kept CountedHex name None ms key other = refl
others_kept Hex name (Some (layout.number n)) ms key other = refl
others_kept CountedHex name (Some (layout.number n)) ms key other = refl
others_kept Hex name (Some (layout.bytes b)) ms key other = one_kept key name _ ms other
others_kept CountedHex name (Some (layout.bytes b)) ms key other = one_kept key name _ ms other

pub rows_kept : (rs : List Row) (values : List Held) (ms : Members) (key : List ℕ) → is_key rs key ≡ false
    → get_member key (put_attributes rs values ms) ≡ get_member key ms
unfolding put_attributes
rows_kept [] values ms key other = refl
rows_kept (r ∷ rs) values ms key other =
    let parts = neither (is_key_of r.kind r.name key) (is_key rs key) other in
    rows_kept rs (drop (holds r.kind) values) (put_attribute r.kind r.name (slice_get values 0) ms) key parts.1
    ∙ others_kept r.kind r.name (slice_get values 0) ms key parts.0

-- ---- each kind of attribute is read as it was put

-- what is at a key in the end is what was put there
abbrev SameAt : List ℕ → Members → Members → Type 0
SameAt key final now = get_member key final ≡ get_member key now

bytes_are : (b : List ℕ) → are_bytes b ≡ true → IsBytes b
bytes_are [] all i = omega arith
bytes_are (b ∷ bs) all zero = ltb-true b 256 (both (nat_lt b 256) (are_bytes bs) all).0
bytes_are (b ∷ bs) all (suc i) = bytes_are bs (both (nat_lt b 256) (are_bytes bs) all).1 i

number_read : (absent : Option ℕ) (range : Option (ℕ × ℕ)) (key : List ℕ) (n widest : ℕ) (final ms : Members)
    → n ≤ widest → within range n ≡ true → SameAt key final (put key (number (unsigned n)) ms)
    → number_attribute absent range widest key final ≡ Ok n
unfolding number_attribute number_in number_of
number_read absent range key n widest final ms small inside same =
    let found = same ∙ get_member-put key (number (unsigned n)) ms in
    rw (found, le-leb n widest small, inside) refl

ones_are : (count n : ℕ) → are_ones count n ≡ true → n ≡ 2 ^ count - 1
ones_are count n is = eqb-true n (2 ^ count - 1) (both (nat_lt count 64) (nat_eq n (2 ^ count - 1)) is).1

-- the usual number is read where the key is absent
reserved_read : (test : Bool) (range : Option (ℕ × ℕ)) (key : List ℕ) (n usual widest : ℕ) (final ms : Members)
    → (test ≡ true → n ≡ usual) → n ≤ widest → within range n ≡ true → get_member key ms ≡ None
    → SameAt key final (if test then ms else put key (number (unsigned n)) ms)
    → number_attribute (Some usual) range widest key final ≡ Ok n
unfolding number_attribute
reserved_read true range key n usual widest final ms told small inside none same =
    let absent = same ∙ none in rw absent (ap Ok (sym (told refl)))
reserved_read false range key n usual widest final ms told small inside none same =
    number_read (Some usual) range key n widest final ms small inside same

bit_again : (n : ℕ) → n < 2 → truth_bit (nat_eq n 1) ≡ n
bit_again zero small = refl
bit_again (suc zero) small = refl
bit_again (suc (suc n)) small = absurd (omega arith)

flag_read : (absent : Option ℕ) (key : List ℕ) (n : ℕ) (final ms : Members) → n < 2
    → SameAt key final (put key (boolean (nat_eq n 1)) ms) → flag_attribute absent key final ≡ Ok n
unfolding flag_attribute bit_of
flag_read absent key n final ms small same =
    let found = same ∙ get_member-put key (boolean (nat_eq n 1)) ms in
    rw found (ap Ok (bit_again n small))

text_there : (key text : List ℕ) (final ms : Members) → SameAt key final (put key (string text) ms)
    → text_at key final ≡ Ok text
unfolding text_at
text_there key text final ms same = let found = same ∙ get_member-put key (string text) ms in rw found refl

start_read : (key : List ℕ) (n : ℕ) (final ms : Members) → start_of (start_text n) ≡ Some n
    → SameAt key final (put key (string (start_text n)) ms) → start_attribute key final ≡ Ok n
unfolding start_attribute
start_read key n final ms back same = rw (text_there key (start_text n) final ms same, back) refl

duration_read : (key : List ℕ) (n : ℕ) (final ms : Members) → time_of 99 (time_text n) ≡ Some n
    → SameAt key final (put key (string (time_text n)) ms) → duration_attribute key final ≡ Ok n
unfolding duration_attribute
duration_read key n final ms back same = rw (text_there key (time_text n) final ms same, back) refl

language_read : (key b : List ℕ) (final ms : Members) → (nat_eq (length b) 3 && are_printable b) ≡ true
    → SameAt key final (put key (string b) ms) → language_attribute key final ≡ Ok b
unfolding language_attribute
language_read key b final ms fit same = rw (text_there key b final ms same, fit) refl

hex_read : (key b : List ℕ) (final ms : Members) → are_bytes b ≡ true → SameAt key final (put_hex key b ms)
    → hex_attribute key final ≡ Ok b
unfolding hex_attribute
hex_read key b final ms fit same =
    let found = same ∙ get_member-put key (string (encode_lower b)) ms in
    rw (found, decode_of-encode_lower b (bytes_are b fit)) refl

data_read : (range : Option (ℕ × ℕ)) (key b : List ℕ) (final ms : Members) → are_bytes b ≡ true
    → within range (length b) ≡ true → SameAt key final (put_hex key b ms) → data_attribute range key final ≡ Ok b
unfolding data_attribute
data_read range key b final ms fit inside same = rw (hex_read key b final ms fit same, inside) refl

-- each text stands for the bytes that it is shown for
abbrev pub TextsTell : Type 0
TextsTell = (b text : List ℕ) → text_of b ≡ Some text → text_bytes text ≡ b

-- each text in a table stands for the bytes that it is shown for
abbrev pub TablesTell : Type 0
TablesTell = (b name text : List ℕ) → are_bytes b ≡ true → tabled_text b ≡ Some (name, text) → tabled_bytes name text ≡ Some b

tabled_there : (key name text b : List ℕ) (found : Option TextTable) → table_named name ≡ found
    → option_and_then (λ t. bytes_by_table t text) found ≡ Some b → tabled_at key text (Some (string name)) ≡ Ok b
tabled_there key name text b None which is = cc
tabled_there key name text b (Some t) which is = rw (which, is) refl

-- what is at the keys of a text in the end
abbrev Texts : List ℕ → Members → Members → Members → Type 0
Texts key final now before =
    (SameAt (hex_key key) final now) × (SameAt (table_key key) final now) × (get_member (table_key key) before ≡ None)

text_read_by : TextsTell → TablesTell → (shown : Option (List ℕ)) (tabled : Option (List ℕ × List ℕ)) (key b : List ℕ) (final ms : Members)
    → are_bytes b ≡ true → get_member key ms ≡ None → text_of b ≡ shown → tabled_text b ≡ tabled
    → SameAt key final (put_text_of shown tabled key b ms) → Texts key final (put_text_of shown tabled key b ms) ms
    → text_attribute key final ≡ Ok b
unfolding text_attribute
text_read_by tell tables (Some text) tabled key b final ms fit none shown is same others =
    let found = same ∙ get_member-put key (string text) ms in
    let no_table = others.1 ∙ get_member-put_other (table_key key) key (string text) ms (λ e. table_longer key (sym e)) ∙ others.2 in
    rw (found, no_table) (ap Ok (tell b text shown))
text_read_by tell tables None (Some x) key b final ms fit none shown is same others =
    let found = same ∙ get_member-put_other key (table_key key) (string x.0) (put key (string x.1) ms) (table_longer key) ∙ get_member-put key (string x.1) ms in
    let table = others.1 ∙ get_member-put (table_key key) (string x.0) (put key (string x.1) ms) in
    let there : tabled_at key x.1 (Some (string x.0)) ≡ Ok b = tabled_there key x.0 x.1 b (table_named x.0) refl (tables b x.0 x.1 fit is) in
    rw (found, table) there
text_read_by tell tables None None key b final ms fit none shown is same others =
    let absent = same ∙ get_member-put_other key (hex_key key) (string (encode_lower b)) ms (longer key) ∙ none in
    rw absent (hex_read (hex_key key) b final ms fit others.0)

text_read : TextsTell → TablesTell → (key b : List ℕ) (final ms : Members) → are_bytes b ≡ true → get_member key ms ≡ None
    → SameAt key final (put_text key b ms) → Texts key final (put_text key b ms) ms
    → text_attribute key final ≡ Ok b
text_read tell tables key b final ms fit none same others =
    text_read_by tell tables (text_of b) (tabled_text b) key b final ms fit none refl refl same others

-- what the laws of texts and times say, by the contracts of the crates below
pub record Laws : Type 0 where
  pub texts : TextsTell
  pub tables : TablesTell
  pub starts : (n : ℕ) → n < 2 ^ 40 → is_start n ≡ true → start_of (start_text n) ≡ Some n
  pub times : (hours n : ℕ) → is_time hours n ≡ true → time_of hours (time_text n) ≡ Some n

-- the value of a field; none for reserved bits
abbrev kept : Kind → Option Held → Option Held
kept (Ones count) value = None
kept (Free count) value = None
kept _ value = value

first_and_rest : (k : Kind) (values : List Held) → field_fits k (slice_get values 0) ≡ true
    → option_to_list (kept k (slice_get values 0)) ++ drop (holds k) values ≡ values
first_and_rest (Ones count) values fit = refl
first_and_rest (Free count) values fit = refl
first_and_rest (Number count) [] fit = cc
first_and_rest (Number count) (v ∷ vs) fit = refl
first_and_rest (Reserved count) [] fit = cc
first_and_rest (Zeros count) [] fit = cc
first_and_rest (Reserved count) (v ∷ vs) fit = refl
first_and_rest (Zeros count) (v ∷ vs) fit = refl
first_and_rest Flag [] fit = cc
first_and_rest Flag (v ∷ vs) fit = refl
first_and_rest Start [] fit = cc
first_and_rest Start (v ∷ vs) fit = refl
first_and_rest Duration [] fit = cc
first_and_rest Duration (v ∷ vs) fit = refl
first_and_rest (Decimal digits) [] fit = cc
first_and_rest (Decimal digits) (v ∷ vs) fit = refl
first_and_rest Language [] fit = cc
first_and_rest Language (v ∷ vs) fit = refl
first_and_rest CountedText [] fit = cc
first_and_rest CountedText (v ∷ vs) fit = refl
first_and_rest Text [] fit = cc
first_and_rest Text (v ∷ vs) fit = refl
first_and_rest Hex [] fit = cc
first_and_rest CountedHex [] fit = cc
first_and_rest Hex (v ∷ vs) fit = refl
first_and_rest CountedHex (v ∷ vs) fit = refl

-- the attribute of a field is read again from members that end with what it put
attribute_again : Laws → (k : Kind) (name : List ℕ) (absent : Option ℕ) (range : Option (ℕ × ℕ))
    (value : Option Held) (final ms : Members) → field_fits k value ≡ true → value_within range value ≡ true
    → (is_key_of k name name ≡ true → get_member name ms ≡ None)
    → SameAt name final (put_attribute k name value ms)
    → (is_key_of k name (table_key name) ≡ true → Texts name final (put_attribute k name value ms) ms)
    → attribute_of k name absent range final ≡ Ok (kept k value)
unfolding attribute_of put_attribute
attribute_again laws (Ones count) name absent range value final ms fit inside none same hex = refl
attribute_again laws (Free count) name absent range value final ms fit inside none same hex = refl
attribute_again laws (Number count) name absent range None final ms fit inside none same hex = cc
attribute_again laws (Number count) name absent range (Some (layout.bytes b)) final ms fit inside none same hex = cc
attribute_again laws (Number count) name absent range (Some (layout.number n)) final ms fit inside none same hex =
    let small : n ≤ 2 ^ count - 1 = omega (arith, ltb-true n (2 ^ count) fit) in
    rw (number_read absent range name n (2 ^ count - 1) final ms small inside same) refl
attribute_again laws (Reserved count) name absent range None final ms fit inside none same hex = cc
attribute_again laws (Zeros count) name absent range None final ms fit inside none same hex = cc
attribute_again laws (Reserved count) name absent range (Some (layout.bytes b)) final ms fit inside none same hex = cc
attribute_again laws (Zeros count) name absent range (Some (layout.bytes b)) final ms fit inside none same hex = cc
attribute_again laws (Reserved count) name absent range (Some (layout.number n)) final ms fit inside none same hex =
    let small : n ≤ 2 ^ count - 1 = omega (arith, ltb-true n (2 ^ count) fit) in
    rw (reserved_read (are_ones count n) range name n (2 ^ count - 1) (2 ^ count - 1) final ms (ones_are count n) small inside (none (self_key name)) same) refl
attribute_again laws (Zeros count) name absent range (Some (layout.number n)) final ms fit inside none same hex =
    let small : n ≤ 2 ^ count - 1 = omega (arith, ltb-true n (2 ^ count) fit) in
    rw (reserved_read (nat_eq n 0) range name n 0 (2 ^ count - 1) final ms (eqb-true n 0) small inside (none (self_key name)) same) refl
attribute_again laws Flag name absent range None final ms fit inside none same hex = cc
attribute_again laws Flag name absent range (Some (layout.bytes b)) final ms fit inside none same hex = cc
attribute_again laws Flag name absent range (Some (layout.number n)) final ms fit inside none same hex =
    rw (flag_read absent name n final ms (ltb-true n 2 fit) same) refl
attribute_again laws Start name absent range None final ms fit inside none same hex = cc
attribute_again laws Start name absent range (Some (layout.bytes b)) final ms fit inside none same hex = cc
attribute_again laws Start name absent range (Some (layout.number n)) final ms fit inside none same hex =
    let parts = both (nat_lt n (2 ^ 40)) (is_start n) fit in
    rw (start_read name n final ms (laws.starts n (ltb-true n (2 ^ 40) parts.0) parts.1) same) refl
attribute_again laws Duration name absent range None final ms fit inside none same hex = cc
attribute_again laws Duration name absent range (Some (layout.bytes b)) final ms fit inside none same hex = cc
attribute_again laws Duration name absent range (Some (layout.number n)) final ms fit inside none same hex =
    let parts = both (nat_lt n (2 ^ 24)) (is_time 99 n) fit in
    rw (duration_read name n final ms (laws.times 99 n parts.1) same) refl
attribute_again laws (Decimal digits) name absent range None final ms fit inside none same hex = cc
attribute_again laws (Decimal digits) name absent range (Some (layout.bytes b)) final ms fit inside none same hex = cc
attribute_again laws (Decimal digits) name absent range (Some (layout.number n)) final ms fit inside none same hex =
    let small : n ≤ 10 ^ digits - 1 = omega (arith, ltb-true n (10 ^ digits) fit) in
    rw (number_read absent range name n (10 ^ digits - 1) final ms small inside same) refl
attribute_again laws Language name absent range None final ms fit inside none same hex = cc
attribute_again laws Language name absent range (Some (layout.number n)) final ms fit inside none same hex = cc
attribute_again laws Language name absent range (Some (layout.bytes b)) final ms fit inside none same hex =
    rw (language_read name b final ms fit same) refl
attribute_again laws CountedText name absent range None final ms fit inside none same hex = cc
attribute_again laws CountedText name absent range (Some (layout.number n)) final ms fit inside none same hex = cc
attribute_again laws CountedText name absent range (Some (layout.bytes b)) final ms fit inside none same hex =
    let bytes = (both (nat_lt (length b) 256) (are_bytes b) fit).1 in
    rw (text_read laws.texts laws.tables name b final ms bytes (none (rw (self_key name) refl)) same (hex (second_true _ _ (second_true _ _ (self_key (table_key name)))))) refl
attribute_again laws Text name absent range None final ms fit inside none same hex = cc
attribute_again laws Text name absent range (Some (layout.number n)) final ms fit inside none same hex = cc
attribute_again laws Text name absent range (Some (layout.bytes b)) final ms fit inside none same hex =
    rw (text_read laws.texts laws.tables name b final ms fit (none (rw (self_key name) refl)) same (hex (second_true _ _ (second_true _ _ (self_key (table_key name)))))) refl
attribute_again laws Hex name absent range None final ms fit inside none same hex = cc
attribute_again laws CountedHex name absent range None final ms fit inside none same hex = cc
attribute_again laws Hex name absent range (Some (layout.number n)) final ms fit inside none same hex = cc
attribute_again laws CountedHex name absent range (Some (layout.number n)) final ms fit inside none same hex = cc
attribute_again laws Hex name absent range (Some (layout.bytes b)) final ms fit inside none same hex =
    rw (data_read range name b final ms fit inside same) refl
attribute_again laws CountedHex name absent range (Some (layout.bytes b)) final ms fit inside none same hex =
    let bytes = (both (nat_lt (length b) 256) (are_bytes b) fit).1 in
    rw (data_read range name b final ms bytes inside same) refl

-- ---- all attributes

one_of : {key name other third : List ℕ} (a b c : Bool) → bytes_eq key name ≡ a → bytes_eq key other ≡ b → bytes_eq key third ≡ c
    → (a || (b || c)) ≡ true → (key ≡ name) ⊎ ((key ≡ other) ⊎ (key ≡ third))
one_of true b c first second last is = inl ((bytes_eq-Decides _ _).0 first)
one_of false true c first second last is = inr (inl ((bytes_eq-Decides _ _).0 second))
one_of false false c first second last is = inr (inr ((bytes_eq-Decides _ _).0 (last ∙ is)))

own_key : (k : Kind) (name key : List ℕ) → is_key_of k name key ≡ true
    → (key ≡ name) ⊎ ((key ≡ hex_key name) ⊎ (key ≡ table_key name))
own_key (Ones count) name key is = cc
own_key (Free count) name key is = cc
own_key CountedText name key is = one_of (bytes_eq key name) (bytes_eq key (hex_key name)) (bytes_eq key (table_key name)) refl refl refl is
own_key Text name key is = one_of (bytes_eq key name) (bytes_eq key (hex_key name)) (bytes_eq key (table_key name)) refl refl refl is
own_key (Number count) name key is = inl ((bytes_eq-Decides key name).0 is)
own_key (Reserved count) name key is = inl ((bytes_eq-Decides key name).0 is)
own_key (Zeros count) name key is = inl ((bytes_eq-Decides key name).0 is)
own_key Flag name key is = inl ((bytes_eq-Decides key name).0 is)
own_key Start name key is = inl ((bytes_eq-Decides key name).0 is)
own_key Duration name key is = inl ((bytes_eq-Decides key name).0 is)
own_key (Decimal digits) name key is = inl ((bytes_eq-Decides key name).0 is)
own_key Language name key is = inl ((bytes_eq-Decides key name).0 is)
own_key Hex name key is = inl ((bytes_eq-Decides key name).0 is)
own_key CountedHex name key is = inl ((bytes_eq-Decides key name).0 is)

-- a later row's key differs from those of an earlier row
pub later_key : (r : Row) (rs : List Row) (key : List ℕ) (own : Bool) → is_key_of r.kind r.name key ≡ own
    → is_key rs key ≡ true → is_key rs r.name ≡ false → is_key rs (hex_key r.name) ≡ false → is_key rs (table_key r.name) ≡ false
    → is_key_of r.kind r.name key ≡ false
later_key r rs key false is later name_not hex_not table_not = is
later_key r rs key true is later name_not hex_not table_not = elim (own_key r.kind r.name key is) [
  | inl e ↦ let n = ap (is_key rs) e in cc
  | inr (inl e) ↦ let n = ap (is_key rs) e in cc
  | inr (inr e) ↦ let n = ap (is_key rs) e in cc
]

-- the first row's keys differ from those of the later rows
pub record Apart (r : Row) (rs : List Row) : Type 0 where
  pub name : is_key rs r.name ≡ false
  pub hex : is_key rs (hex_key r.name) ≡ false
  pub table : is_key rs (table_key r.name) ≡ false
  pub rest : keys_differ rs ≡ true

pub apart_of : (r : Row) (rs : List Row) → keys_differ (r ∷ rs) ≡ true → Apart r rs
apart_of r rs is =
    let outer = both (not (is_key rs r.name) && not (is_key rs (hex_key r.name)) && not (is_key rs (table_key r.name))) (keys_differ rs) is in
    let middle = both (not (is_key rs r.name) && not (is_key rs (hex_key r.name))) (not (is_key rs (table_key r.name))) outer.0 in
    let inner = both (not (is_key rs r.name)) (not (is_key rs (hex_key r.name))) middle.0 in
    record { name = not_true _ inner.0; hex = not_true _ inner.1; table = not_true _ middle.1; rest = outer.1 }

pub attributes_again : Laws → (rs : List Row) (values : List Held) (ms : Members) → fits rs values ≡ true
    → are_within rs values ≡ true → keys_differ rs ≡ true
    → ((key : List ℕ) → is_key rs key ≡ true → get_member key ms ≡ None)
    → read_attributes rs (put_attributes rs values ms) ≡ Ok values
unfolding read_attributes put_attributes fits are_within
attributes_again laws [] [] ms fit inside keys none = refl
attributes_again laws [] (v ∷ vs) ms fit inside keys none = cc
attributes_again laws (r ∷ rs) values ms fit inside keys none =
    let k = r.kind in
    let first = slice_get values 0 in
    let others = drop (holds k) values in
    let now = put_attribute k r.name first ms in
    let parts = both (field_fits k first) (fits rs others) fit in
    let ranges = both (value_within r.range first) (are_within rs others) inside in
    let apart = apart_of r rs keys in
    let here = attribute_again laws k r.name r.absent r.range first (put_attributes rs others now) ms parts.0 ranges.0
    (λ own. none r.name (rw own refl))
    (rows_kept rs others now r.name apart.name)
    (λ own. (rows_kept rs others now (hex_key r.name) apart.hex, rows_kept rs others now (table_key r.name) apart.table, none (table_key r.name) (rw own refl))) in
    let more = attributes_again laws rs others now parts.1 ranges.1 apart.rest (λ key later.
    others_kept k r.name first ms key (later_key r rs key (is_key_of k r.name key) refl later apart.name apart.hex apart.table)
    ∙ none key (second_true (is_key_of k r.name key) (is_key rs key) later)) in
    rw (here, more) (ap Ok (first_and_rest k values parts.0))
