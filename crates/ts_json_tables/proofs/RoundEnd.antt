-- A table that is shown is read again.
use Rattle.std.proofs.Common.{◌≡◌, ℕ, ◌<◌, Bool, true, false, List, [], ◌∷◌, ◌++◌, length, drop, refl, sym, ap, ◌∙◌, map, arith}
use Rattle.std.specs.Prelude.{All, Option, Some, None, Ok, codes, is_some, nat_eq, nat_lt, if◌then◌else◌}
use Rattle.std.specs.List.{list_all}
use Rattle.std.proofs.lemmas.Bool.{eqb-true, le-leb, lt-ltb, ltb-true}
use Rattle.std.proofs.lemmas.List.{length-map, take-append-drop}
use Rattle.std.proofs.lemmas.List.Elements.{All-drop}
use Rattle.serde_json.specs.Data.{Members, array}
use Rattle.serde_json.specs.Find.{get_member}
use Rattle.serde_json.specs.View.{items_of}
use Rattle.ts_bits.specs.TaggedBody.{TaggedBody, IsDescriptor}
use Rattle.ts_fields.specs.Fitting.{are_bytes, fits}
use Rattle.ts_fields.specs.Layout.{Held, number, bytes}
use Rattle.ts_jtree.specs.Attributes.{read_attributes}
use Rattle.ts_jtree.specs.Elements.{keys_known, nodes_key, nodes_of, no_children}
use Rattle.ts_jtree.specs.Shown.{are_within, element_members, rows_show}
use Rattle.ts_table_rows.specs.declared.layout.LoopForm.{LoopForm}
use Rattle.ts_table_rows.specs.declared.layout.LoopForm.TheVariants.{Absent, Counted, ToEnd}
use Rattle.ts_table_rows.specs.BodySpelling.{common_values, head_values, held_count}
use Rattle.ts_table_rows.specs.TableFitting.{DescriptorsFit, item_fits, items_fit, none_there, numbers_fit, own_fit}
use Rattle.ts_table_rows.specs.TablePages.{ItemPage, TablePage}
use Rattle.ts_table_rows.specs.TableValues.{ItemHolding, TableHolding}
use Rattle.ts_json_tables.specs.ElementRows.{current_row, element_rows, extension_row, extension_rows, first_rows, id_rows, network_key, is_eit_id, kept_rows, long_name, long_rows, network_rows, payload_row, private_row, section_name, section_rows, short_name, short_rows, table_id_row, version_row}
use Rattle.ts_json_tables.specs.HeadReading.{names_eit, names_network, read_bytes, read_heading, read_network}
use Rattle.ts_json_tables.specs.HeldTables.{LongHolding, ShortHolding, TableValue, laid, long, short}
use Rattle.ts_json_tables.specs.ValidTables.{IsLaid, IsOfBytes, IsTable, is_payload, is_short, numbers_kept}
use Rattle.ts_json_tables.specs.ValidTables as valid
use Rattle.ts_json_tables.specs.TableElements.{begins_with_zero, children_shown, element_values, extension_values, first_values, id_values, kept_values, long_values, network_values, section_shown, short_values, shown_items, table_shown, truth}
use Rattle.ts_json_tables.specs.TableReading.{has_own, is_valid_count, kept_or_none, read_laid, read_long, read_long_head, read_section, read_short, sections_counted, table_read, with_payloads}
use Rattle.ts_json_tables.proofs.AgainLemmas.{AllRead, Laws, each_read}
use Rattle.ts_json_tables.proofs.ByteLemmas.{count_list}
use Rattle.ts_json_tables.proofs.EntryLemmas.{begins_not}
use Rattle.ts_json_tables.proofs.FitLemmas.{fit_parts}
use Rattle.ts_json_tables.proofs.KnownLemmas.{Facts, named_facts}
use Rattle.ts_json_tables.proofs.ValidLemmas.{eit_same}
use Rattle.ts_json_tables.proofs.RangeLemmas.{element_within}
use Rattle.ts_json_tables.proofs.RoundHead.{Network, extension_again, key_absent, kept_again, network_again, network_of, pid_there}
use Rattle.ts_json_tables.proofs.RoundLemmas.{children_again}
use Rattle.ts_json_tables.proofs.RowLemmas.{fits_count, plain, plain_within, split_read}
use Rattle.ts_json_tables.proofs.SectionLemmas.{LongFacts, long_facts}
use Rattle.ts_json_tables.proofs.ShortRound.{short_read_again}
use Rattle.ts_json_tables.proofs.ShowLemmas.{element_fits, first_fit, id_fit, kept_fit, truth_small}
use Rattle.ts_json_tables.proofs.StepLemmas.{both}
use Rattle.ts_json_tables.proofs.TruthLemmas.{number_again, truth_read}

-- ---- attributes of a table of a page

network_named : (p : TablePage) (ms : Members) (items : List ItemHolding) (network : Network p.one_zero items) → Facts p
    → keys_known (element_rows p (begins_with_zero p.one_zero items)) ms ms ≡ Ok []
    → read_attributes (network_rows (begins_with_zero p.one_zero items)) ms ≡ Ok (network_values p.one_zero items)
    → names_network p.one_zero ms ≡ begins_with_zero p.one_zero items
network_named p ms items network facts keys read = go p.one_zero (begins_with_zero p.one_zero items) refl refl keys read
  where
    never : false ≡ true → ⊥
    never is = cc

    go : (zero b : Bool) → p.one_zero ≡ zero → begins_with_zero zero items ≡ b → keys_known (element_rows p b) ms ms ≡ Ok []
        → read_attributes (network_rows b) ms ≡ Ok (network_values p.one_zero items) → names_network zero ms ≡ b
    go false false is at keys read = refl
    go false true is at keys read = absurd (never (sym (begins_not items) ∙ at))
    go true true is at keys read = pid_there ms (network_values p.one_zero items) read
    go true false is at keys read = ap is_some (key_absent (element_rows p false) ms ms network_key (facts.unknown ms) keys)

heading_again : (p : TablePage) (t : TableHolding) (ms : Members) → IsLaid p t → Facts p
    → (network : Network p.one_zero t.body.items)
    → keys_known (element_rows p (begins_with_zero p.one_zero t.body.items)) ms ms ≡ Ok []
    → read_attributes (element_rows p (begins_with_zero p.one_zero t.body.items)) ms ≡ Ok (element_values p t)
    → (read_heading p ms ≡ Ok (record { head = t.head; values = t.body.values; network = network.pid }))
    × (names_network p.one_zero ms ≡ begins_with_zero p.one_zero t.body.items)
unfolding read_heading
heading_again p t ms kept facts network keys is =
    let parts = fit_parts p t kept.fits in
    let b = begins_with_zero p.one_zero t.body.items in
    let h = t.head in
    let common = common_values p t.body.values in
    let others = head_values p t.body.values in
    let last = network_values p.one_zero t.body.items in
    let ids = id_values p.ids h.table_id in
    let ext = extension_values p.extension h.extension in
    let behind = p.common ++ (kept_rows p.keeps_numbers ++ (p.head ++ network_rows b)) in
    let after_values = common ++ (kept_values h.numbers ++ (others ++ last)) in
    let s1 = split_read (first_rows p) behind (first_values p h) after_values ms (fits_count (first_rows p) (first_values p h) (first_fit p t parts)) is in
    let s2 = split_read (version_row ∷ []) (current_row ∷ (id_rows p.ids ++ extension_rows p.extension)) (number h.version ∷ []) (truth h.current ∷ (ids ++ ext)) ms refl s1.0 in
    let s3 = split_read (current_row ∷ []) (id_rows p.ids ++ extension_rows p.extension) (truth h.current ∷ []) (ids ++ ext) ms refl s2.1 in
    let s4 = split_read (id_rows p.ids) (extension_rows p.extension) ids ext ms (fits_count (id_rows p.ids) ids (id_fit p.ids h.table_id parts.valid_id)) s3.1 in
    let s5 = split_read p.common _ common _ ms (fits_count p.common common parts.common) s1.1 in
    let s6 = split_read (kept_rows p.keeps_numbers) _ (kept_values h.numbers) _ ms (fits_count (kept_rows p.keeps_numbers) (kept_values h.numbers) (kept_fit p.keeps_numbers h.numbers parts.numbers)) s5.1 in
    let s7 = split_read p.head (network_rows b) others last ms (fits_count p.head others parts.others) s6.1 in
    let there = network_named p ms t.body.items network facts keys s7.1 in
    let pid : read_network (names_network p.one_zero ms) ms ≡ Ok network.pid =
    ap (λ x. read_network x ms) (there ∙ sym network.there)
    ∙ network_again network.pid ms last network.values (ap (λ x. read_attributes (network_rows x) ms) network.there ∙ s7.1) in (
      rw (number_again version_row ms h.version s2.0, truth_read current_row ms h.current s3.0, facts.ids_again ms h.table_id parts.id s4.0, extension_again p.extension h.extension ms kept.extension s4.1, s5.0, kept_again p.keeps_numbers h.numbers ms parts.numbers s6.0, s7.0, pid)
          (ap (λ vs. Ok (record { head = h; values = vs; network = network.pid })) (take-append-drop (held_count p.common) t.body.values)),
      there,
    )

own_there : (form : LoopForm) (ds : List TaggedBody) → own_fit form ds ≡ true → none_there ds ≡ false → has_own form ≡ true
own_there Absent ds fit some = absurd (never (sym some ∙ fit))
  where
    never : false ≡ true → ⊥
    never is = cc
own_there Counted ds fit some = refl
own_there ToEnd ds fit some = refl

-- what holds for all items holds for those that are shown
shown_all : (one_zero : Bool) (items : List ItemHolding) → All (λ x. All (λ d. IsDescriptor d) x.descriptors) items
    → All (λ x. All (λ d. IsDescriptor d) x.descriptors) (shown_items one_zero items)
shown_all one_zero items all = go (begins_with_zero one_zero items)
  where
    go : (b : Bool) → All (λ x. All (λ d. IsDescriptor d) x.descriptors) (if b then drop 1 items else items)
    go true = All-drop (λ x. All (λ d. IsDescriptor d) x.descriptors) 1 items all
    go false = all

shown_fit : (one_zero : Bool) (i : Option ItemPage) (items : List ItemHolding) → items_fit i items ≡ true
    → items_fit i (shown_items one_zero items) ≡ true
shown_fit one_zero i items fit = go (begins_with_zero one_zero items)
  where
    tail_fit : (j : Option ItemPage) (xs : List ItemHolding) → items_fit j xs ≡ true → items_fit j (drop 1 xs) ≡ true
    tail_fit None [] is = refl
    tail_fit None (x ∷ xs) is = cc
    tail_fit (Some j) [] is = refl
    tail_fit (Some j) (x ∷ xs) is = (both (item_fits j x) (list_all (item_fits j) xs) is).1

    go : (b : Bool) → items_fit i (if b then drop 1 items else items) ≡ true
    go true = tail_fit i items fit
    go false = fit

laid_again : Laws → (p : TablePage) (t : TableHolding) → IsLaid p t → DescriptorsFit t.body → Facts p
    → read_laid p (element_members (element_rows p (begins_with_zero p.one_zero t.body.items)) p.name (Some (array (items_of (children_shown p t.body)))) (element_values p t))
    ≡ Ok (laid p t)
unfolding read_laid nodes_of
laid_again laws p t is well facts =
    let b = begins_with_zero p.one_zero t.body.items in
    let rows = element_rows p b in
    let nodes = Some (array (items_of (children_shown p t.body))) in
    let values = element_values p t in
    let ms = element_members rows p.name nodes values in
    let parts = fit_parts p t is.fits in
    let network = network_of p.one_zero p.items t.body.items facts.zero parts.items in
    let keys = laws.keys rows p.name nodes values (facts.shows b) in
    let read = laws.values rows p.name nodes values (facts.shows b) (element_fits p t is) (element_within p t b parts.id (facts.bare b)) in
    let head = heading_again p t ms is facts network keys read in
    let xs = shown_items p.one_zero t.body.items in
    let children = children_again laws p t.body.descriptors xs facts.items (own_there p.loop_form t.body.descriptors parts.own)
    (shown_fit p.one_zero p.items t.body.items parts.items) is.within well.own (shown_all p.one_zero t.body.items well.items) in
    let found : get_member nodes_key ms ≡ nodes = laws.children rows p.name nodes values (facts.shows b) in
    rw (head.1, keys, head.0, found, children)
    (ap (λ l. Ok (laid p (record { head = t.head; body = record { values = t.body.values; descriptors = t.body.descriptors; items = l } }))) network.joined)

-- ---- tables given by their bytes

payload_again : (most : ℕ) (ms : Members) (row : List ℕ) → read_attributes (payload_row most ∷ []) ms ≡ Ok (bytes row ∷ [])
    → read_bytes (payload_row most) ms ≡ Ok row
unfolding read_bytes
payload_again most ms row is = rw is refl

short_fit : (s : ShortHolding) → is_short s ≡ true → are_bytes s.payload ≡ true
    → (fits short_rows (short_values s) ≡ true) × (are_within short_rows (short_values s) ≡ true)
unfolding fits are_within
short_fit s is small =
    let parts = both (nat_lt s.table_id 255) (is_payload 4093 s.payload) is in
    let id = ltb-true s.table_id 255 parts.0 in (
      rw (lt-ltb s.table_id 256 (omega (arith, id)), truth_small s.own, small) refl,
      rw (le-leb 0 s.table_id (omega arith), le-leb s.table_id 254 (omega (arith, id)), le-leb 0 (length s.payload) (omega arith), parts.1) refl,
    )

short_again : Laws → (s : ShortHolding) → is_short s ≡ true → are_bytes s.payload ≡ true
    → read_short (element_members short_rows short_name None (short_values s)) ≡ Ok (short s)
unfolding read_short nodes_of no_children
short_again laws s is small =
    let ms = element_members short_rows short_name None (short_values s) in
    let fit = short_fit s is small in
    let read = laws.values short_rows short_name None (short_values s) refl fit.0 fit.1 in
    let s1 = split_read (table_id_row (0, 254) ∷ []) (private_row ∷ payload_row 4093 ∷ []) (number s.table_id ∷ []) (truth s.own ∷ bytes s.payload ∷ []) ms refl read in
    let s2 = split_read (private_row ∷ []) (payload_row 4093 ∷ []) (truth s.own ∷ []) (bytes s.payload ∷ []) ms refl s1.1 in
    rw (
      laws.keys short_rows short_name None (short_values s) refl,
      number_again (table_id_row (0, 254)) ms s.table_id s1.0,
      truth_read private_row ms s.own s2.0,
      payload_again 4093 ms s.payload s2.1,
      laws.children short_rows short_name None (short_values s) refl,
    ) refl

section_again : Laws → (row : List ℕ) → is_payload 4084 row ≡ true → are_bytes row ≡ true → read_section (section_shown row) ≡ Ok row
unfolding read_section nodes_of no_children fits are_within
section_again laws row is small =
    let values = bytes row ∷ [] in
    let ms = element_members section_rows section_name None values in
    let fit : fits section_rows values ≡ true = rw small refl in
    let inside : are_within section_rows values ≡ true = rw (le-leb 0 (length row) (omega arith), is) refl in
    rw (
      laws.name section_rows section_name None values refl,
      laws.keys section_rows section_name None values refl,
      payload_again 4084 ms row (laws.values section_rows section_name None values refl fit inside),
      laws.children section_rows section_name None values refl,
    ) refl

sections_again : Laws → (rows : List (List ℕ)) → list_all (is_payload 4084) rows ≡ true → list_all are_bytes rows ≡ true
    → AllRead read_section (map section_shown rows) rows
sections_again laws [] is small = tt
sections_again laws (row ∷ rows) is small =
    let a = both (is_payload 4084 row) (list_all (is_payload 4084) rows) is in
    let b = both (are_bytes row) (list_all are_bytes rows) small in
    (section_again laws row a.0 b.0, sections_again laws rows a.1 b.1)

long_show : (eit : Bool) → rows_show (long_rows eit) ≡ true
long_show true = refl
long_show false = refl

numbers_shown : (eit : Bool) (n : ℕ × ℕ) → numbers_kept eit n ≡ true
    → (numbers_fit eit (if eit then Some n else None) ≡ true) × (kept_or_none (if eit then Some n else None) ≡ n)
numbers_shown true n is = (is, refl)
numbers_shown false n is =
    let parts = both (nat_eq n.0 0) (nat_eq n.1 0) is in
    (refl, ap (λ k. (k, 0)) (sym (eqb-true n.0 0 parts.0)) ∙ ap (λ k. (n.0, k)) (sym (eqb-true n.1 0 parts.1)))

kept_within : (eit : Bool) (values : List Held) → are_within (kept_rows eit) values ≡ true
kept_within eit values = plain_within (kept_rows eit) values (go eit)
  where
    go : (b : Bool) → plain (kept_rows b) ≡ true
    go true = refl
    go false = refl

long_fit : (l : LongHolding) → LongFacts l → l.extension < 65536 → numbers_kept (is_eit_id l.table_id) l.numbers ≡ true
    → (fits (long_rows (is_eit_id l.table_id)) (long_values l) ≡ true) × (are_within (long_rows (is_eit_id l.table_id)) (long_values l) ≡ true)
unfolding fits are_within
long_fit l facts ext kept =
    let numbers = numbers_shown (is_eit_id l.table_id) l.numbers kept in
    let id = facts.id in
    let version = facts.version in (
      rw (lt-ltb l.version 32 version, truth_small l.current, lt-ltb l.table_id 256 (omega (arith, id)), lt-ltb l.extension 65536 ext, truth_small l.own)
          (kept_fit (is_eit_id l.table_id) _ numbers.0),
      rw (le-leb 0 l.table_id (omega arith), le-leb l.table_id 254 (omega (arith, id))) (kept_within (is_eit_id l.table_id) _),
    )

record LongParts (l : LongHolding) : Type 0 where
  extension : l.extension < 65536
  numbers : numbers_kept (is_eit_id l.table_id) l.numbers ≡ true
  count : is_valid_count (is_eit_id l.table_id) (length l.payloads) ≡ true

long_parts : (l : LongHolding) → valid.is_long l ≡ true → LongParts l
long_parts l is =
    let a = both (nat_lt l.version 32) _ is in
    let b = both (nat_lt l.table_id 255) _ a.1 in
    let c = both (nat_lt l.extension 65536) _ b.1 in
    let d = both (numbers_kept (is_eit_id l.table_id) l.numbers) _ c.1 in
    let e = both (is_valid_count (is_eit_id l.table_id) (length l.payloads)) (list_all (is_payload 4084) l.payloads) d.1 in
    record { extension = ltb-true l.extension 65536 c.0; numbers = d.0; count = e.0 }

counted_again : (eit : Bool) (rows : List (List ℕ)) → is_valid_count eit (length rows) ≡ true
    → sections_counted eit (items_of (map section_shown rows)) ≡ Ok (items_of (map section_shown rows))
counted_again eit rows is =
    rw (count_list (map section_shown rows), length-map rows section_shown, is) refl

long_head_again : (l : LongHolding) (ms : Members) → numbers_kept (is_eit_id l.table_id) l.numbers ≡ true
    → read_attributes (long_rows (is_eit_id l.table_id)) ms ≡ Ok (long_values l)
    → (read_long_head (is_eit_id l.table_id) ms ≡ Ok (with_payloads l [])) × (names_eit ms ≡ is_eit_id l.table_id)
unfolding read_long_head
long_head_again l ms kept read =
    let eit = is_eit_id l.table_id in
    let numbers = numbers_shown eit l.numbers kept in
    let last = kept_values (if eit then Some l.numbers else None) in
    let id_row = table_id_row (0, 254) in
    let ext_row = extension_row (codes "table_id_extension") in
    let s1 = split_read (version_row ∷ []) (current_row ∷ id_row ∷ ext_row ∷ private_row ∷ kept_rows eit) (number l.version ∷ []) (truth l.current ∷ number l.table_id ∷ number l.extension ∷ truth l.own ∷ last) ms refl read in
    let s2 = split_read (current_row ∷ []) (id_row ∷ ext_row ∷ private_row ∷ kept_rows eit) (truth l.current ∷ []) (number l.table_id ∷ number l.extension ∷ truth l.own ∷ last) ms refl s1.1 in
    let s3 = split_read (id_row ∷ []) (ext_row ∷ private_row ∷ kept_rows eit) (number l.table_id ∷ []) (number l.extension ∷ truth l.own ∷ last) ms refl s2.1 in
    let s4 = split_read (ext_row ∷ []) (private_row ∷ kept_rows eit) (number l.extension ∷ []) (truth l.own ∷ last) ms refl s3.1 in
    let s5 = split_read (private_row ∷ []) (kept_rows eit) (truth l.own ∷ []) last ms refl s4.1 in
    let id = number_again id_row ms l.table_id s3.0 in (
      rw (number_again version_row ms l.version s1.0, truth_read current_row ms l.current s2.0, id, number_again ext_row ms l.extension s4.0, truth_read private_row ms l.own s5.0, kept_again eit _ ms numbers.0 s5.1)
          (ap (λ n. Ok (record { version = l.version; current = l.current; table_id = l.table_id; extension = l.extension; own = l.own; numbers = n; payloads = [] })) numbers.1),
      eit_same ms l.table_id id,
    )

long_again : Laws → (l : LongHolding) → valid.is_long l ≡ true → list_all are_bytes l.payloads ≡ true
    → read_long (element_members (long_rows (is_eit_id l.table_id)) long_name (Some (array (items_of (map section_shown l.payloads)))) (long_values l))
    ≡ Ok (long l)
unfolding read_long nodes_of
long_again laws l is small =
    let eit = is_eit_id l.table_id in
    let nodes = Some (array (items_of (map section_shown l.payloads))) in
    let ms = element_members (long_rows eit) long_name nodes (long_values l) in
    let facts = long_facts l is in
    let parts = long_parts l is in
    let fit = long_fit l facts parts.extension parts.numbers in
    let shows = long_show eit in
    let head = long_head_again l ms parts.numbers (laws.values (long_rows eit) long_name nodes (long_values l) shows fit.0 fit.1) in
    let found : get_member nodes_key ms ≡ nodes = laws.children (long_rows eit) long_name nodes (long_values l) shows in
    rw (
      head.1,
      laws.keys (long_rows eit) long_name nodes (long_values l) shows,
      head.0,
      found,
      counted_again eit l.payloads parts.count,
      each_read read_section 0 (map section_shown l.payloads) l.payloads (sections_again laws l.payloads facts.bodies small),
    ) refl

-- every valid table that is shown is read again
pub table_again : Laws → (t : TableValue) → IsTable t → IsOfBytes t → table_read (table_shown t) ≡ Ok t
unfolding table_read
table_again laws (laid p t) is well =
    let facts = named_facts p.name p is.known in
    let b = begins_with_zero p.one_zero t.body.items in
    rw (laws.name (element_rows p b) p.name (Some (array (items_of (children_shown p t.body)))) (element_values p t) (facts.shows b), facts.no_short, facts.no_long, is.known)
    (laid_again laws p t is well facts)
table_again laws (short s) is small =
    short_read_again laws s is small (rw (laws.name short_rows short_name None (short_values s) refl) (short_again laws s is small))
table_again laws (long l) is small =
    rw (laws.name (long_rows (is_eit_id l.table_id)) long_name (Some (array (items_of (map section_shown l.payloads)))) (long_values l) (long_show (is_eit_id l.table_id)))
    (long_again laws l is small)
