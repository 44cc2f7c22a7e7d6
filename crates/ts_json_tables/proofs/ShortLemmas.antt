-- Tables of the short form that are shown by their fields: what their pages have, and what they hold.
use Rattle.std.proofs.Common.{◌≡◌, ℕ, ◌+◌, ◌*◌, ◌/◌, ◌%◌, ◌<◌, ◌≤◌, Bool, true, false, List, [], ◌∷◌, ◌++◌, length, refl, sym, ap, ◌∙◌, subst, arith, length-append}
use Rattle.std.specs.Prelude.{Option, Some, None, Result, Ok, Err, bytes_eq, nat_eq, nat_lt, if◌then◌else◌}
use Rattle.std.proofs.lemmas.Bool.{and_from, eqb-true, le-leb, leb-true, lt-ltb, ltb-false}
use Rattle.std.proofs.lemmas.List.Folds.{list_all-append}
use Rattle.std.proofs.lemmas.Option.{same_Some}
use Rattle.std.proofs.lemmas.Slice.Eq.{bytes_eq-Decides}
use Rattle.serde_json.specs.Data.{Members}
use Rattle.ts_bits.specs.DescriptorLoop.{descriptors_of}
use Rattle.ts_bits.specs.TaggedBody.{TaggedBody, loop_bytes}
use Rattle.ts_fields.specs.Bits.{bits, bits_of}
use Rattle.ts_fields.specs.Bodies.{Holding, Page, page_exact, spell_page}
use Rattle.ts_fields.specs.Fitting.{are_bytes, fits, shaped}
use Rattle.ts_fields.specs.Layout.{Held, Row}
use Rattle.ts_fields.specs.Reading.{read_bytes, read_number, read_rows}
use Rattle.ts_fields.specs.SoundRows.{widths}
use Rattle.ts_fields.specs.Spelling.{spell_rows}
use Rattle.ts_jtree.specs.declared.fault.JsonKind.TheVariants.{OutOfRange}
use Rattle.ts_jtree.specs.Elements.{nodes_key}
use Rattle.ts_jtree.specs.Faults.{refuse}
use Rattle.ts_jtree.specs.Shown.{rows_show}
use Rattle.ts_json_descr.specs.DescrReading.{read_holding}
use Rattle.ts_json_descr.proofs.GroupLemmas.{plain}
use Rattle.ts_json_descr.proofs.PageLemmas.{items_show}
use Rattle.ts_json_descr.proofs.StepLemmas.{not_more}
use Rattle.ts_section.specs.Crc.{crc_of}
use Rattle.ts_section.specs.WrittenSection.{first_three, four_bytes}
use Rattle.ts_table_rows.specs.BodySpelling.{bytes_of, spell_counted}
use Rattle.ts_json_tables.specs.ElementRows.{long_name, short_name}
use Rattle.ts_json_tables.specs.HeldTables.{ShortHolding, TableValue, short}
use Rattle.ts_json_tables.specs.KnownPages.{page_named}
use Rattle.ts_json_tables.specs.ShortPages.{rst_page, short_page_named, short_page_of, tdt_page}
use Rattle.ts_json_tables.specs.TableElements.{tot_name}
use Rattle.ts_json_tables.specs.TableReading.{read_paged, sized_short}
use Rattle.ts_json_tables.specs.TimeOffsets.{OffsetHolding, if_same, offset_bits, offset_crc, offset_front, offset_payload, read_offsets, tot_id, tot_of, tot_rows, whole_loop}
use Rattle.ts_json_tables.specs.ValidTables.{IsOfBytes, IsTable, is_payload, is_short}
use Rattle.ts_json_tables.proofs.MadeBodies.{Spelled, bytes_length}
use Rattle.ts_json_tables.proofs.OfBytesReading.{AllDescriptors, described, then_some}
use Rattle.ts_json_tables.proofs.StepLemmas.{both, same_ok}

-- ---- pages

-- what holds for a page with this table_id
pub record ShortFacts (id : ℕ) (p : Page) : Type 0 where
  pub tagged : id ≡ p.tag
  pub no_short : bytes_eq p.name short_name ≡ false
  pub no_long : bytes_eq p.name long_name ≡ false
  pub no_laid : page_named p.name ≡ None
  pub no_tot : bytes_eq p.name tot_name ≡ false
  pub named : short_page_named p.name ≡ Some p
  pub shows : rows_show p.head ≡ true
  pub bare : plain p.head ≡ true
  pub items : items_show p.items ≡ true
  pub exact : page_exact p ≡ true

pub short_facts : (id : ℕ) (p : Page) → short_page_of id ≡ Some p → ShortFacts id p
short_facts id p is = go (nat_eq id 0x70) refl (nat_eq id 0x71) refl is
  where
    go : (a : Bool) → nat_eq id 0x70 ≡ a → (b : Bool) → nat_eq id 0x71 ≡ b → (if a then Some tdt_page else if b then Some rst_page else None) ≡ Some p → ShortFacts id p
    go true at b other found = subst (ShortFacts id) (same_Some _ p found) (record {
      tagged = eqb-true id 0x70 at;
      no_short = refl;
      no_long = refl;
      no_laid = refl;
      no_tot = refl;
      named = refl;
      shows = refl;
      bare = refl;
      items = refl;
      exact = refl;
    })
    go false other true at found = subst (ShortFacts id) (same_Some _ p found) (record {
      tagged = eqb-true id 0x71 at;
      no_short = refl;
      no_long = refl;
      no_laid = refl;
      no_tot = refl;
      named = refl;
      shows = refl;
      bare = refl;
      items = refl;
      exact = refl;
    })
    go false other false neither found = cc

-- the table_id of a page is one of a section
pub small_tag : (name : List ℕ) (p : Page) → short_page_named name ≡ Some p → p.tag < 255
small_tag name p is = go (bytes_eq name tdt_page.name) (bytes_eq name rst_page.name) is
  where
    go : (a b : Bool) → (if a then Some tdt_page else if b then Some rst_page else None) ≡ Some p → p.tag < 255
    go true b found = subst (λ (q : Page). q.tag < 255) (same_Some _ p found) (omega arith)
    go false true found = subst (λ (q : Page). q.tag < 255) (same_Some _ p found) (omega arith)
    go false false found = cc

-- ---- sections with some bytes after section_length

sized_is : (P : Type 0) (id : ℕ) (payload : List ℕ) (t : TableValue) → sized_short id payload ≡ Ok t
    → (length payload ≤ 4093 → short (record { table_id = id; own = true; payload = payload }) ≡ t → P) → P
sized_is P id payload t is made = go (nat_lt 4093 (length payload)) refl is
  where
    go : (b : Bool) → nat_lt 4093 (length payload) ≡ b
        → (if b then refuse nodes_key OutOfRange else Ok (short (record { table_id = id; own = true; payload = payload }))) ≡ Ok t → P
    go true at read = cc
    go false at read = made (ltb-false 4093 (length payload) at) (same_ok _ t read)

pub sized_valid : (id : ℕ) (payload : List ℕ) (t : TableValue) → id < 255 → sized_short id payload ≡ Ok t → IsTable t
sized_valid id payload t small is =
    sized_is (IsTable t) id payload t is (λ room same.
    subst IsTable same (and_from (nat_lt id 255) (is_payload 4093 payload) (lt-ltb id 255 small) (le-leb (length payload) 4093 room)))

pub sized_bytes : (id : ℕ) (payload : List ℕ) (t : TableValue) → are_bytes payload ≡ true → sized_short id payload ≡ Ok t → IsOfBytes t
sized_bytes id payload t small is = sized_is (IsOfBytes t) id payload t is (λ room same. subst IsOfBytes same small)

pub sized_again : (s : ShortHolding) (id : ℕ) (payload : List ℕ) → is_short s ≡ true → s.own ≡ true → s.table_id ≡ id
    → s.payload ≡ payload → sized_short id payload ≡ Ok (short s)
sized_again s id payload is own same bytes =
    let room = leb-true (length s.payload) 4093 (both (nat_lt s.table_id 255) (is_payload 4093 s.payload) is).1 in
    let test = not_more 4093 (length s.payload) (nat_lt 4093 (length s.payload)) refl room in
    subst (λ i. sized_short i payload ≡ Ok (short s)) same
    (subst (λ b. sized_short s.table_id b ≡ Ok (short s)) bytes
    (rw test (ap (λ o. Ok (short (record { table_id = s.table_id; own = o; payload = s.payload }))) (sym own))))

pub sized_large : (id : ℕ) (payload : List ℕ) → 4093 < length payload → sized_short id payload ≡ refuse nodes_key OutOfRange
sized_large id payload more = rw (lt-ltb 4093 (length payload) more) refl

pub sized_small : (id : ℕ) (payload : List ℕ) → length payload ≤ 4093
    → sized_short id payload ≡ Ok (short (record { table_id = id; own = true; payload = payload }))
sized_small id payload room = rw (not_more 4093 (length payload) (nat_lt 4093 (length payload)) refl room) refl

pub paged_made : (p : Page) (ms : Members) (h : Holding) (payload : List ℕ) → read_holding p ms ≡ Ok h
    → payload ≡ bytes_of (spell_page p h) → read_paged p ms ≡ sized_short p.tag payload
unfolding read_paged
paged_made p ms h payload is same = rw is (ap (sized_short p.tag) (sym same))

-- ---- TOTs

-- what the layer below ensures of fields that are read
abbrev pub RowsRead : Type 0
RowsRead = (rs : List Row) (from : List Bool) (values : List Held) (rest : List Bool) → read_rows rs from ≡ Some (values, rest)
    → (length from ≡ length (spell_rows rs values) + length rest) × (fits rs values ≡ true)

-- what the layers below ensure of fields, bytes and descriptors that are read
pub record OffsetLaws : Type 0 where
  pub rows : RowsRead
  pub bytes : (count : ℕ) (row : List ℕ) (from rest : List Bool) → read_bytes count from ≡ Some (row, rest)
      → (from ≡ bits_of row ++ rest) × (length row ≡ count) × (are_bytes row ≡ true)
  pub whole : (row : List ℕ) (ds : List TaggedBody) → descriptors_of row ≡ Ok ds → loop_bytes ds ≡ row

-- what a TOT that was read holds
pub record IsOffset (t : OffsetHolding) : Type 0 where
  pub fit : fits tot_rows t.values ≡ true
  pub descriptors : AllDescriptors t.descriptors

whole_there : (r : Result (List TaggedBody) ℕ) (ds : List TaggedBody) → whole_loop r ≡ Some ds → r ≡ Ok ds
whole_there (Ok xs) ds is = ap Ok (same_Some xs ds is)
whole_there (Err offset) ds is = cc

pub offset_read : OffsetLaws → (from : List Bool) (t : OffsetHolding) → read_offsets from ≡ Some t → IsOffset t
unfolding read_offsets
offset_read law from t is =
    then_some (read_rows tot_rows from) _ t is (λ values a1 b1.
    then_some (read_number 12 values.1) _ t b1 (λ size a2 b2.
    then_some (read_bytes size.0 size.1) _ t b2 (λ row a3 b3.
    then_some (whole_loop (descriptors_of row.0)) _ t b3 (λ ds a4 b4.
    subst IsOffset (same_Some _ t b4) (record {
      fit = (law.rows tot_rows from values.0 values.1 a1).1;
      descriptors = described ds (ap are_bytes (law.whole row.0 ds (whole_there (descriptors_of row.0) ds a4)) ∙ (law.bytes size.0 row.0 size.1 row.1 a3).2);
    })))))

-- its fields alone
pub offset_fits : RowsRead → (from : List Bool) (t : OffsetHolding) → read_offsets from ≡ Some t → fits tot_rows t.values ≡ true
unfolding read_offsets
offset_fits law from t is =
    then_some (read_rows tot_rows from) _ t is (λ values a1 b1.
    then_some (read_number 12 values.1) _ t b1 (λ size a2 b2.
    then_some (read_bytes size.0 size.1) _ t b2 (λ row a3 b3.
    then_some (whole_loop (descriptors_of row.0)) _ t b3 (λ ds a4 b4.
    subst (λ (x : OffsetHolding). fits tot_rows x.values ≡ true) (same_Some _ t b4) (law tot_rows from values.0 values.1 a1).1))))

-- the bits before the CRC are whole bytes
pub front_whole : ((rs : List Row) (values : List Held) → shaped rs values ≡ true → (more : ℕ) × (length (spell_rows rs values) ≡ widths rs + 8 * more))
    → ((count value : ℕ) → length (bits count value) ≡ count) → ((row : List ℕ) → length (bits_of row) ≡ 8 * length row)
    → (values : List Held) (row : List ℕ) → shaped tot_rows values ≡ true → length (offset_bits values row) % 8 ≡ 0
unfolding offset_bits spell_counted
front_whole spelled wide long values row is =
    let more = spelled tot_rows values is in
    let all : length (offset_bits values row) ≡ 8 * (7 + more.0 + length row) = omega (
      arith,
      length-append (spell_rows tot_rows values) (bits 12 (length row) ++ bits_of row),
      length-append (bits 12 (length row)) (bits_of row),
      more.1,
      wide 12 (length row),
      long row,
    ) in
    omega (arith, all)

-- the CRC has four bytes
pub crc_length : (front : List ℕ) → length (offset_crc front) ≡ 4
unfolding offset_crc
crc_length front = refl

-- the length with a CRC
pub with_crc_length : (front : List ℕ) → length (front ++ offset_crc front) ≡ length front + 4
with_crc_length front = length-append front (offset_crc front) ∙ ap (λ n. length front + n) (crc_length front)

-- what is a TOT was read, and has its bytes
pub tot_is : (payload : List ℕ) (t : OffsetHolding) → tot_of payload ≡ Some t
    → (read_offsets (bits_of payload) ≡ Some t) × (payload ≡ offset_payload t)
tot_is payload t is = go (read_offsets (bits_of payload)) is
  where
    tested : (x : OffsetHolding) (b : Bool) → bytes_eq (offset_payload x) payload ≡ b → (if b then Some x else None) ≡ Some t
        → (Some x ≡ Some t) × (payload ≡ offset_payload t)
    tested x true at found =
        let same : x ≡ t = same_Some x t found in
        (found, subst (λ y. payload ≡ offset_payload y) same (sym ((bytes_eq-Decides (offset_payload x) payload).0 at)))
    tested x false at found = cc

    go : (o : Option OffsetHolding) → if_same payload o ≡ Some t → (o ≡ Some t) × (payload ≡ offset_payload t)
    go None found = cc
    go (Some x) found = tested x (bytes_eq (offset_payload x) payload) refl found

crc_are_bytes : (front : List ℕ) → are_bytes (offset_crc front) ≡ true
unfolding offset_crc
crc_are_bytes front = four (crc_of (first_three tot_id false true (4 + length front) ++ front))
  where
    four : (n : ℕ) → are_bytes (four_bytes n) ≡ true
    four n =
        let a = n / 16777216 % 256 in
        let b = n / 65536 % 256 in
        let c = n / 256 % 256 in
        let d = n % 256 in
        and_from (nat_lt a 256) (are_bytes (b ∷ c ∷ d ∷ [])) (lt-ltb a 256 (omega arith))
        (and_from (nat_lt b 256) (are_bytes (c ∷ d ∷ [])) (lt-ltb b 256 (omega arith))
        (and_from (nat_lt c 256) (are_bytes (d ∷ [])) (lt-ltb c 256 (omega arith))
        (and_from (nat_lt d 256) true (lt-ltb d 256 (omega arith)) refl)))

pub payload_are_bytes : Spelled → (t : OffsetHolding) → are_bytes (offset_payload t) ≡ true
payload_are_bytes law t =
    let front = offset_front t in
    list_all-append (λ b. nat_lt b 256) front (offset_crc front)
    ∙ and_from (are_bytes front) (are_bytes (offset_crc front)) (bytes_length law (offset_bits t.values (loop_bytes t.descriptors))).1 (crc_are_bytes front)
