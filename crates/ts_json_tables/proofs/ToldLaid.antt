-- The sections of a table of a page give it, and so does a section of the short form.
use Rattle.std.proofs.Common.{◌≡◌, ℕ, ◌+◌, ◌<◌, ◌≤◌, Bool, true, false, List, [], ◌∷◌, ◌++◌, length, drop, refl, sym, ap, ◌∙◌, subst, arith, inl}
use Rattle.std.specs.Prelude.{All, IsTrue, Option, Some, None, Result, Ok, Err, filter, find, not, nat_le, nat_lt, option_to_list, if◌then◌else◌}
use Rattle.std.specs.List.{list_all}
use Rattle.std.proofs.lemmas.Bool.{cond_both, leb-true, ltb-false, ltb-true}
use Rattle.std.proofs.lemmas.List.Elements.{All-cons, All-nil}
use Rattle.ts_fields.specs.Fitting.{are_bytes}
use Rattle.ts_section.specs.ValidSection.{IsSection}
use Rattle.ts_section.specs.SectionFields.{is_long, table_id_of}
use Rattle.ts_section.specs.SectionRun.{IsTableRun, stands_alone}
use Rattle.ts_section.specs.WrittenSection.{IsShortSectionOf, short_section}
use Rattle.ts_jtree.specs.Shown.{are_within}
use Rattle.ts_table_pages.specs.PatEntries.{is_network, ordered}
use Rattle.ts_table_pages.specs.PsiPages.{entry_page}
use Rattle.ts_table_rows.specs.declared.fault.TableRefusal.{TableRefusal}
use Rattle.ts_table_rows.specs.declared.fault.TableRule.TheVariants.{WrongTable}
use Rattle.ts_table_rows.specs.declared.table.TableHead.{TableHead}
use Rattle.ts_table_rows.specs.RoundTrip.{IsReadAgain, IsWrittenWhole, forms_runs}
use Rattle.ts_table_rows.specs.RunReading as runs
use Rattle.ts_table_rows.specs.RunReading.{FirstBroken, broken_at, is_of, kept_head, read_by, read_run, read_sections, too_many, unseen}
use Rattle.ts_table_rows.specs.TableFitting.{DescriptorsFit, item_fits, items_fit, numbers_fit, table_fits}
use Rattle.ts_table_rows.specs.TablePages.{ItemPage, TablePage, page_sound}
use Rattle.ts_table_rows.specs.TableSections as writing
use Rattle.ts_table_rows.specs.TableSections.{body_rows, head_with, numbers_of, sections_of, sections_with}
use Rattle.ts_table_rows.specs.TableValues.{BodyHolding, ItemHolding, TableHolding}
use Rattle.ts_json_tables.specs.HeldTables.{ShortHolding, laid, long, short}
use Rattle.ts_json_tables.specs.KnownPages.{page_with_id}
use Rattle.ts_json_tables.specs.ValidTables.{IsLaid, is_payload, is_short, items_within}
use Rattle.ts_json_tables.specs.RunTables.{bytes_table, long_of, read_or_bytes, settled, settled_items, short_of, table_by, table_of_run}
use Rattle.ts_json_tables.specs.TableElements.{shown_items}
use Rattle.ts_json_tables.specs.ToldTables.{TellsTable}
use Rattle.ts_json_tables.proofs.EntryLemmas.{not_zero}
use Rattle.ts_json_tables.proofs.FitLemmas.{Parts, fit_parts}
use Rattle.ts_json_tables.proofs.KnownLemmas.{named_facts}
use Rattle.ts_json_tables.proofs.MadeBodies.{AreBodies, Spelled, bodies_are}
use Rattle.ts_json_tables.proofs.MadeSections.{AreHeads, MadeValid, all_made, made_by, rows_made, small_bytes}
use Rattle.ts_json_tables.proofs.PageIds.{IdFacts, named_ids}
use Rattle.ts_json_tables.proofs.StepLemmas.{both}

-- ---- a section of the short form

abbrev pub ShortValid : Type 0
ShortValid = (id : ℕ) (own : Bool) (body : List ℕ) → id < 255 → All (λ x. x < 256) body → length body ≤ 4093 → IsShortSectionOf id own body (short_section id own body)

abbrev short_with : ℕ → Bool → List ℕ → ShortHolding
short_with id own payload = record { table_id = id; own = own; payload = payload }

same_short : (a a' : ℕ) (b b' : Bool) (c c' : List ℕ) → a ≡ a' → b ≡ b' → c ≡ c' → short_with a b c ≡ short_with a' b' c'
same_short a a' b b' c c' p q r = cc

short_bytes : (x : List ℕ) (s : ShortHolding) → IsShortSectionOf s.table_id s.own s.payload x → bytes_table (x ∷ []) ≡ short s
short_bytes x s made =
    ap (λ b. if b then long (long_of x (x ∷ [])) else short (short_of x)) made.short
    ∙ ap short (same_short _ s.table_id _ s.own _ s.payload made.same_id made.same_private made.same_body)

-- no page has the short form
short_read : (p : TablePage) (x : List ℕ) → is_long x ≡ false → read_run p (x ∷ []) ≡ broken_at 0 0 WrongTable
unfolding read_run
short_read p x form = rw form refl

short_page : (o : Option TablePage) (x : List ℕ) (s : ShortHolding) → is_long x ≡ false → bytes_table (x ∷ []) ≡ short s → table_by o (x ∷ []) ≡ short s
short_page None x s form told = told
short_page (Some p) x s form told = ap (λ r. read_or_bytes p r (x ∷ [])) (short_read p x form) ∙ told

short_alone : (x : List ℕ) → is_long x ≡ false → stands_alone x ≡ true
short_alone x form = rw form refl

pub short_told : ShortValid → (s : ShortHolding) → is_short s ≡ true → are_bytes s.payload ≡ true → TellsTable (short s) (short_section s.table_id s.own s.payload ∷ [])
short_told law s is bytes =
    let parts = both (nat_lt s.table_id 255) (is_payload 4093 s.payload) is in
    let x = short_section s.table_id s.own s.payload in
    let made = law s.table_id s.own s.payload (ltb-true s.table_id 255 parts.0) (small_bytes s.payload bytes) (leb-true (length s.payload) 4093 parts.1) in
    record {
      valid = All-cons (λ b. IsSection b) x [] made.valid (All-nil (λ b. IsSection b));
      whole = inl (short_alone x made.short, refl);
      table = short_page (page_with_id (table_id_of x)) x s made.short (short_bytes x s made);
    }

-- ---- a table of a page is kept as it is

none_network : (xs : List ItemHolding) → list_all (item_fits entry_page) xs ≡ true → list_all (λ x. are_within entry_page.rows x.values) xs ≡ true
    → (find is_network xs ≡ None) × (filter (λ x. not (is_network x)) xs ≡ xs)
none_network [] fit inside = (refl, refl)
none_network (x ∷ xs) fit inside =
    let a = both (item_fits entry_page x) (list_all (item_fits entry_page) xs) fit in
    let b = both (are_within entry_page.rows x.values) (list_all (λ y. are_within entry_page.rows y.values) xs) inside in
    let other = not_zero x a.0 b.0 in
    let rest = none_network xs a.1 b.1 in (
      ap (λ t. if t then Some x else find is_network xs) other ∙ rest.0,
      ap (λ t. if not t then x ∷ filter (λ y. not (is_network y)) xs else filter (λ y. not (is_network y)) xs) other ∙ ap (λ l. x ∷ l) rest.1,
    )

ordered_by : (x : ItemHolding) (xs : List ItemHolding) (zero : Bool) → is_network x ≡ zero → list_all (item_fits entry_page) (x ∷ xs) ≡ true
    → list_all (λ y. are_within entry_page.rows y.values) (if zero then drop 1 (x ∷ xs) else x ∷ xs) ≡ true → ordered (x ∷ xs) ≡ x ∷ xs
ordered_by x xs true is fit inside =
    let rest = none_network xs (both (item_fits entry_page x) (list_all (item_fits entry_page) xs) fit).1 inside in
    ap (λ t. option_to_list (if t then Some x else find is_network xs) ++ (if not t then x ∷ filter (λ y. not (is_network y)) xs else filter (λ y. not (is_network y)) xs)) is
    ∙ ap (λ l. x ∷ l) rest.1
ordered_by x xs false is fit inside =
    let all = none_network (x ∷ xs) fit inside in
    ap (λ o. option_to_list o ++ filter (λ y. not (is_network y)) (x ∷ xs)) all.0 ∙ all.1

ordered_same : (xs : List ItemHolding) → list_all (item_fits entry_page) xs ≡ true → list_all (λ x. are_within entry_page.rows x.values) (shown_items true xs) ≡ true
    → ordered xs ≡ xs
ordered_same [] fit inside = refl
ordered_same (x ∷ xs) fit inside = ordered_by x xs (is_network x) refl fit inside

items_same : (one_zero : Bool) (i : Option ItemPage) (xs : List ItemHolding) → (one_zero ≡ true → i ≡ Some entry_page) → items_fit i xs ≡ true
    → items_within i (shown_items one_zero xs) ≡ true → settled_items one_zero xs ≡ xs
items_same false i xs entries fit inside = refl
items_same true i xs entries fit inside =
    ordered_same xs (subst (λ j. items_fit j xs ≡ true) (entries refl) fit) (subst (λ j. items_within j (shown_items true xs) ≡ true) (entries refl) inside)

abbrev table_with : TableHolding → ℕ → List ItemHolding → TableHolding
table_with t extension items = record {
  head = record { table_id = t.head.table_id; extension = extension; version = t.head.version; current = t.head.current; numbers = t.head.numbers };
  body = record { values = t.body.values; descriptors = t.body.descriptors; items = items };
}

settled_same : (p : TablePage) (t : TableHolding) → IsLaid p t → settled p t ≡ t
settled_same p t is =
    let facts = named_facts p.name p is.known in
    let parts = fit_parts p t is.fits in
    ap (λ n. table_with t n (settled_items p.one_zero t.body.items)) (sym is.extension)
    ∙ ap (table_with t t.head.extension) (items_same p.one_zero p.items t.body.items facts.zero parts.items is.within)

-- ---- its sections are valid

then_written : {A B P : Type 0} (r : Result A TableRefusal) (next : A → Result B TableRefusal) (y : B) → (writing.◌>>=◌ r next) ≡ Ok y
    → ((x : A) → r ≡ Ok x → next x ≡ Ok y → P) → P
then_written (Ok x) next y is goal = goal x refl is
then_written (Err refusal) next y is goal = cc

-- the numbers of the sections
record AreNumbers (first last count : ℕ) : Type 0 where
  room : first + count ≤ last + 1
  small : last < 256

numbers_by : (keeps : Bool) (numbers : Option (ℕ × ℕ)) (count : ℕ) → numbers_fit keeps numbers ≡ true → 0 < count → count ≤ 256 → (keeps ≡ true → count ≡ 1)
    → AreNumbers (numbers_of numbers count).0 (numbers_of numbers count).1 count
numbers_by false None count fit some few one = record { room = omega (arith, some); small = omega (arith, some, few) }
numbers_by false (Some n) count fit some few one = cc
numbers_by true None count fit some few one = cc
numbers_by true (Some n) count fit some few one =
    let parts = both (nat_le n.0 n.1) (nat_lt n.1 256) fit in
    let order = leb-true n.0 n.1 parts.0 in
    record { room = omega (arith, order, one refl); small = ltb-true n.1 256 parts.1 }

made_heads : (p : TablePage) (h : TableHead) (last : ℕ) → h.table_id < 255 → h.extension < 65536 → h.version < 32 → last < 256 → AreHeads (head_with p h last) last
made_heads p h last id extension version small = record {
  id = λ n. id;
  extension = λ n. extension;
  version = λ n. version;
  number = λ n. refl;
  last = λ n. refl;
  small = small;
}

rows_valid : MadeValid → (p : TablePage) (t : TableHolding) (rows ss : List (List ℕ)) → Parts p t → IdFacts p → AreBodies p.single rows → sections_with p t.head rows ≡ Ok ss
    → All (λ s. IsSection s) ss
rows_valid law p t rows ss parts ids bodies =
    let first : ℕ = (numbers_of t.head.numbers (length rows)).0 in
    let last : ℕ = (numbers_of t.head.numbers (length rows)).1 in
    cond_both (nat_lt 256 (length rows)) _ _ (λ (r : Result (List (List ℕ)) TableRefusal). r ≡ Ok ss → All (λ s. IsSection s) ss)
    (λ many is. cc)
    (λ few is.
    let numbers = numbers_by p.keeps_numbers t.head.numbers (length rows) parts.numbers bodies.some (ltb-false 256 (length rows) few) (λ keeps. bodies.one (ids.keeps keeps)) in
    let heads = made_heads p t.head last parts.valid_id parts.extension parts.version numbers.small in
    let are : made_by (head_with p t.head last) first rows ≡ ss = sym (rows_made p t.head last first rows) ∙ same_written _ ss is in
    subst (All (λ s. IsSection s)) are (all_made law (head_with p t.head last) last first rows heads numbers.room bodies.small bodies.bytes))
  where
    same_written : (x y : List (List ℕ)) → ◌≡◌ {A = Result (List (List ℕ)) TableRefusal} (Ok x) (Ok y) → x ≡ y
    same_written x y is = cc

laid_valid : Spelled → MadeValid → (p : TablePage) (t : TableHolding) (ss : List (List ℕ)) → IsLaid p t → sections_of p t ≡ Ok ss → All (λ s. IsSection s) ss
unfolding sections_of
laid_valid spelled law p t ss is =
    λ written.
    let ids = named_ids p.name p is.known in
    then_written (body_rows p t.body) (sections_with p t.head) ss written (λ rows were made.
    rows_valid law p t rows ss (fit_parts p t is.fits) ids (bodies_are spelled p t.body rows ids.most were) made)

-- ---- and give it

read_id : (p : TablePage) (s : List ℕ) (rest : List (List ℕ)) (t : TableHolding) → read_run p (s ∷ rest) ≡ Ok t → table_id_of s ≡ t.head.table_id
unfolding read_run
read_id p s rest t =
    cond_both (is_of p s) (Some (kept_head p s)) None (λ (o : Option TableHead). read_by p o s rest ≡ Ok t → table_id_of s ≡ t.head.table_id)
    (λ ours. cond_both (too_many p rest) _ _ (λ (r : Result TableHolding FirstBroken). r ≡ Ok t → table_id_of s ≡ t.head.table_id) (λ many is. cc) (λ few is. kept (read_sections p unseen 0 (s ∷ rest)) is))
    (λ other is. cc)
  where
    same_read : (x y : TableHolding) → ◌≡◌ {A = Result TableHolding FirstBroken} (Ok x) (Ok y) → x ≡ y
    same_read x y is = cc

    kept : (r : Result BodyHolding FirstBroken) → (runs.◌>>=◌ r (λ body. Ok (record { head = kept_head p s; body = body }))) ≡ Ok t → table_id_of s ≡ t.head.table_id
    kept (Ok b) is = ap (λ (x : TableHolding). x.head.table_id) (same_read (record { head = kept_head p s; body = b }) t is)
    kept (Err fault) is = cc

laid_table : (p : TablePage) (t : TableHolding) (ss : List (List ℕ)) → IsLaid p t → IdFacts p → IsTableRun ss → read_run p ss ≡ Ok t → table_of_run ss ≡ laid p t
laid_table p t [] is ids whole read = absurd whole
laid_table p t (s ∷ rest) is ids whole read =
    let id = read_id p s rest t read in
    let page : page_with_id (table_id_of s) ≡ Some p = ap page_with_id id ∙ ids.own t.head.table_id (fit_parts p t is.fits).id in
    ap (λ o. table_by o (s ∷ rest)) page ∙ ap (λ r. read_or_bytes p r (s ∷ rest)) read ∙ ap (laid p) (settled_same p t is)

-- what the layer below ensures of tables that are written
pub record Written : Type 0 where
  pub again : (p : TablePage) (h : TableHolding) → IsTrue (page_sound p) → table_fits p h ≡ true → DescriptorsFit h.body → IsReadAgain p h
  pub whole : (p : TablePage) (h : TableHolding) → IsTrue (page_sound p) → forms_runs p ≡ true → table_fits p h ≡ true → DescriptorsFit h.body → IsWrittenWhole p h

pub laid_told : Written → Spelled → MadeValid → (p : TablePage) (t : TableHolding) (ss : List (List ℕ)) → IsLaid p t → DescriptorsFit t.body → sections_of p t ≡ Ok ss
    → TellsTable (laid p t) ss
laid_told written spelled law p t ss is well made =
    let facts = named_facts p.name p is.known in
    let ids = named_ids p.name p is.known in
    let whole = written.whole p t facts.sound ids.runs is.fits well ss made in
    record {
      valid = laid_valid spelled law p t ss is made;
      whole = whole;
      table = laid_table p t ss is ids whole (written.again p t facts.sound is.fits well ss made);
    }
