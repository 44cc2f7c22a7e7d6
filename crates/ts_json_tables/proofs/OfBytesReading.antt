-- The table of a run has valid descriptors alone, each with its bytes.
use Rattle.std.proofs.Common.{◌≡◌, ℕ, zero, suc, ◌+◌, ◌<◌, ◌/◌, Bool, true, false, List, [], ◌∷◌, ◌++◌, length, refl, sym, ap, ◌∙◌, subst, arith}
use Rattle.std.specs.Prelude.{All, Option, Some, None, Result, Ok, Err, nat_eq, nat_le, nat_lt}
use Rattle.std.proofs.lemmas.Bool.{and_parts, cond_both, ltb-true}
use Rattle.std.proofs.lemmas.List.Elements.{All-append, All-cons, All-nil, All-weaker}
use Rattle.std.proofs.lemmas.List.Folds.{list_all-append}
use Rattle.std.proofs.lemmas.List.Sums.{AllPass-from_list_all}
use Rattle.ts_bits.specs.DescriptorLoop.{descriptors_of}
use Rattle.ts_bits.specs.TaggedBody.{TaggedBody, IsDescriptor, loop_bytes}
use Rattle.ts_fields.specs.Bits.{bits_of}
use Rattle.ts_fields.specs.Fitting.{are_bytes}
use Rattle.ts_fields.specs.Reading as fields
use Rattle.ts_fields.specs.Reading.{read_bytes, read_number, read_rest}
use Rattle.ts_section.specs.SectionFields.{body_of, section_length_of}
use Rattle.ts_table_rows.specs.declared.fault.TableRule.{TableRule}
use Rattle.ts_table_rows.specs.declared.fault.TableRule.TheVariants.{Short, Loop, Time}
use Rattle.ts_table_rows.specs.declared.layout.LoopForm.{LoopForm}
use Rattle.ts_table_rows.specs.declared.layout.LoopForm.TheVariants.{Absent, Counted, ToEnd}
use Rattle.ts_table_rows.specs.declared.table.TableHead.{TableHead}
use Rattle.ts_table_rows.specs.BodyReading.{Fault, Seen, ◌>>=◌, count_zero, nothing_left, or_broken, or_cut, read_after, read_body, read_counted, read_counted_items, read_counted_loop, read_described, read_fields, read_heading, read_item, read_items, read_last_loop, read_loop, read_next}
use Rattle.ts_table_rows.specs.RunReading as run
use Rattle.ts_table_rows.specs.RunReading.{FirstBroken, in_section, read_by, read_run, read_section, read_sections, table_head, too_many, unseen}
use Rattle.ts_table_rows.specs.TableFitting.{DescriptorsFit}
use Rattle.ts_table_rows.specs.TablePages.{ItemPage, TablePage, fixed_part}
use Rattle.ts_table_rows.specs.TableValues.{BodyHolding, ItemHolding, TableHolding, joined}

-- what the layers below ensure of bytes and of loops that are read
pub record BytesRead : Type 0 where
  pub bytes : (count : ℕ) (row : List ℕ) (from rest : List Bool) → read_bytes count from ≡ Some (row, rest)
      → (from ≡ bits_of row ++ rest) × (length row ≡ count) × (are_bytes row ≡ true)
  pub whole : (row : List ℕ) (ds : List TaggedBody) → descriptors_of row ≡ Ok ds → loop_bytes ds ≡ row

-- ---- steps

then_ok : {A B P : Type 0} (r : Result A Fault) (next : A → Result B Fault) (y : B) → (r >>= next) ≡ Ok y
    → ((x : A) → r ≡ Ok x → next x ≡ Ok y → P) → P
then_ok (Ok x) next y is goal = goal x refl is
then_ok (Err fault) next y is goal = cc

then_run : {A B P : Type 0} (r : Result A FirstBroken) (next : A → Result B FirstBroken) (y : B) → (run.◌>>=◌ r next) ≡ Ok y
    → ((x : A) → r ≡ Ok x → next x ≡ Ok y → P) → P
then_run (Ok x) next y is goal = goal x refl is
then_run (Err fault) next y is goal = cc

pub then_some : {A B P : Type 0} (o : Option A) (next : A → Option B) (y : B) → (fields.◌>>=◌ o next) ≡ Some y
    → ((x : A) → o ≡ Some x → next x ≡ Some y → P) → P
then_some (Some x) next y is goal = goal x refl is
then_some None next y is goal = cc

same_ok : {A E : Type 0} (x y : A) → ◌≡◌ {A = Result A E} (Ok x) (Ok y) → x ≡ y
same_ok x y is = cc

there : {A : Type 0} (o : Option A) (rule : TableRule) (left : ℕ) (y : A) → or_broken o rule left ≡ Ok y → o ≡ Some y
there (Some x) rule left y is = ap Some (same_ok x y is)
there None rule left y is = cc

uncut : (r : Result (List TaggedBody) ℕ) (left : ℕ) (ds : List TaggedBody) → or_cut r left ≡ Ok ds → r ≡ Ok ds
uncut (Ok xs) left ds is = ap Ok (same_ok xs ds is)
uncut (Err offset) left ds is = cc

-- ---- descriptors

abbrev pub AllDescriptors : List TaggedBody → Type 0
AllDescriptors ds = All (λ d. IsDescriptor d) ds

abbrev AllDescribed : List ItemHolding → Type 0
AllDescribed items = All (λ x. AllDescriptors x.descriptors) items

bytes_all : (row : List ℕ) → are_bytes row ≡ true → All (λ x. x < 256) row
bytes_all row is =
    All-weaker (λ x. nat_lt x 256 ≡ true) (λ x. x < 256) (λ x small. ltb-true x 256 small) row
    (AllPass-from_list_all (λ x. nat_lt x 256) row is)

pub described : (ds : List TaggedBody) → are_bytes (loop_bytes ds) ≡ true → AllDescriptors ds
described [] is = All-nil (λ d. IsDescriptor d)
described (d ∷ ds) is =
    let tag = and_parts (nat_lt d.tag 256) (are_bytes (length d.body ∷ (d.body ++ loop_bytes ds))) is in
    let size = and_parts (nat_lt (length d.body) 256) (are_bytes (d.body ++ loop_bytes ds)) tag.1 in
    let rest = and_parts (are_bytes d.body) (are_bytes (loop_bytes ds)) (sym (list_all-append (λ b. nat_lt b 256) d.body (loop_bytes ds)) ∙ size.1) in
    All-cons (λ x. IsDescriptor x) d ds (record {
      tag = ltb-true d.tag 256 tag.0;
      room = omega (arith, ltb-true (length d.body) 256 size.0);
      bytes = bytes_all d.body rest.0;
    }) (described ds rest.1)

of_row : BytesRead → (row : List ℕ) (left : ℕ) (ds : List TaggedBody) → are_bytes row ≡ true → or_cut (descriptors_of row) left ≡ Ok ds
    → AllDescriptors ds
of_row law row left ds bytes is = described ds (ap are_bytes (law.whole row ds (uncut (descriptors_of row) left ds is)) ∙ bytes)

counted_bytes : BytesRead → (rule : TableRule) (left behind : ℕ) (from : List Bool) (y : List ℕ × List Bool)
    → read_counted rule left behind from ≡ Ok y → are_bytes y.0 ≡ true
unfolding read_counted
counted_bytes law rule left behind from y is =
    then_ok (or_broken (read_number 12 from) rule left) _ y is (λ size was later.
    (law.bytes size.0 y.0 size.1 y.1 (there (read_bytes size.0 size.1) Loop (length from + behind) y later)).2)

counted_described : BytesRead → (rule : TableRule) (left behind : ℕ) (from : List Bool) (y : List TaggedBody × List Bool)
    → read_counted_loop rule left behind from ≡ Ok y → AllDescriptors y.0
unfolding read_counted_loop
counted_described law rule left behind from y is =
    then_ok (read_counted rule left behind from) _ y is (λ row was later.
    then_ok (or_cut (descriptors_of row.0) _) _ y later (λ ds had joins.
    subst (λ z. AllDescriptors z.0) (same_ok _ _ joins) (of_row law row.0 _ ds (counted_bytes law rule left behind from row was) had)))

rest_bytes : BytesRead → (from : List Bool) (y : List ℕ × List Bool) → read_rest from ≡ Some y → are_bytes y.0 ≡ true
unfolding read_rest
rest_bytes law from y is =
    then_some (read_bytes (length from / 8) from) _ y is (λ all was later.
    cond_both (nat_eq (length all.1) 0) _ _ (λ o. o ≡ Some y → are_bytes y.0 ≡ true)
    (λ none same. let e : (all.0, all.1) ≡ y = cc same in
    subst (λ z. are_bytes z.0 ≡ true) e (law.bytes (length from / 8) all.0 from all.1 was).2)
    (λ some same. cc same) later)

last_described : BytesRead → (from : List Bool) (y : List TaggedBody × List Bool) → read_last_loop from ≡ Ok y → AllDescriptors y.0
unfolding read_last_loop
last_described law from y is =
    then_ok (or_broken (read_rest from) Short (length from)) _ y is (λ row was later.
    then_ok (or_cut (descriptors_of row.0) (length from)) _ y later (λ ds had joins.
    subst (λ z. AllDescriptors z.0) (same_ok _ _ joins)
    (of_row law row.0 (length from) ds (rest_bytes law from row (there (read_rest from) Short (length from) row was)) had)))

loop_described : BytesRead → (form : LoopForm) (from : List Bool) (y : List TaggedBody × List Bool) → read_loop form from ≡ Ok y → AllDescriptors y.0
unfolding read_loop
loop_described law Absent from y is = subst (λ z. AllDescriptors z.0) (same_ok _ _ is) (All-nil (λ d. IsDescriptor d))
loop_described law Counted from y is = counted_described law Short (length from) 0 from y is
loop_described law ToEnd from y is = last_described law from y is

-- ---- items

own_described : BytesRead → (has : Bool) (left behind : ℕ) (from : List Bool) (y : List TaggedBody × List Bool)
    → read_described has left behind from ≡ Ok y → AllDescriptors y.0
unfolding read_described
own_described law false left behind from y is = subst (λ z. AllDescriptors z.0) (same_ok _ _ is) (All-nil (λ d. IsDescriptor d))
own_described law true left behind from y is = counted_described law Loop left behind from y is

item_described : BytesRead → (i : ItemPage) (behind : ℕ) (from : List Bool) (y : ItemHolding × List Bool) → read_item i behind from ≡ Ok y
    → AllDescriptors y.0.descriptors
unfolding read_item
item_described law i behind from y =
    cond_both (nat_le (fixed_part i) (length from)) _ _ (λ r. r ≡ Ok y → AllDescriptors y.0.descriptors)
    (λ enough is.
    then_ok (read_fields Time behind i.rows from) _ y is (λ x was later.
    then_ok (read_described i.described (length from + behind) behind x.1) _ y later (λ ds had joins.
    subst (λ z. AllDescriptors z.0.descriptors) (same_ok _ _ joins) (own_described law i.described (length from + behind) behind x.1 ds had))))
    (λ few is. cc is)

next_described : BytesRead → (one_zero : Bool) (i : ItemPage) (seen : Bool) (behind : ℕ) (from : List Bool) (y : ItemHolding × Bool × List Bool)
    → read_next one_zero i seen behind from ≡ Ok y → AllDescriptors y.0.descriptors
unfolding read_next
next_described law one_zero i seen behind from y is =
    then_ok (read_item i behind from) _ y is (λ x was later.
    then_ok (count_zero one_zero seen x.0.values (length from + behind)) _ y later (λ now had joins.
    subst (λ z. AllDescriptors z.0.descriptors) (same_ok _ _ joins) (item_described law i behind from x was)))

items_described : BytesRead → (most : ℕ) (one_zero : Bool) (i : ItemPage) (seen : Bool) (behind : ℕ) (from : List Bool) (y : List ItemHolding × Bool)
    → read_items most one_zero i seen behind from ≡ Ok y → AllDescribed y.0
unfolding read_items
items_described law most one_zero i seen behind [] y is =
    subst (λ z. AllDescribed z.0) (same_ok _ _ is) (All-nil (λ x. AllDescriptors x.descriptors))
items_described law zero one_zero i seen behind (b ∷ bs) y is = cc is
items_described law (suc most) one_zero i seen behind (b ∷ bs) y is =
    then_ok (read_next one_zero i seen behind (b ∷ bs)) _ y is (λ x was later.
    then_ok (read_items most one_zero i x.1 behind x.2) _ y later (λ more had joins.
    subst (λ z. AllDescribed z.0) (same_ok _ _ joins)
    (All-cons (λ z. AllDescriptors z.descriptors) x.0 more.0 (next_described law one_zero i seen behind (b ∷ bs) x was)
    (items_described law most one_zero i x.1 behind x.2 more had))))

counted_items_described : BytesRead → (one_zero : Bool) (i : ItemPage) (seen : Bool) (from : List Bool) (y : List ItemHolding × Bool)
    → read_counted_items one_zero i seen from ≡ Ok y → AllDescribed y.0
unfolding read_counted_items
counted_items_described law one_zero i seen from y is =
    then_ok (or_broken (read_number 4 from) Short (length from)) _ y is (λ reserved a later.
    then_ok (read_counted Short (length reserved.1) 0 reserved.1) _ y later (λ row b more.
    then_ok (read_items (length (bits_of row.0)) one_zero i seen (length row.1) (bits_of row.0)) _ y more (λ items d last.
    then_ok (nothing_left (length row.1)) _ y last (λ none e joins.
    subst (λ z. AllDescribed z.0) (same_ok _ _ joins)
    (items_described law (length (bits_of row.0)) one_zero i seen (length row.1) (bits_of row.0) items d)))))

after_described : BytesRead → (one_zero : Bool) (i : Option ItemPage) (seen : Bool) (from : List Bool) (y : List ItemHolding × Bool)
    → read_after one_zero i seen from ≡ Ok y → AllDescribed y.0
unfolding read_after
after_described law one_zero None seen from y is =
    then_ok (nothing_left (length from)) _ y is (λ none a joins.
    subst (λ z. AllDescribed z.0) (same_ok _ _ joins) (All-nil (λ x. AllDescriptors x.descriptors)))
after_described law one_zero (Some i) seen from y is =
    cond_both i.counted _ _ (λ r. r ≡ Ok y → AllDescribed y.0)
    (λ counted read. counted_items_described law one_zero i seen from y read)
    (λ uncounted read. items_described law (length from) one_zero i seen 0 from y read) is

-- ---- bodies and runs

body_described : BytesRead → (p : TablePage) (seen : Seen) (from : List Bool) (y : BodyHolding × Seen) → read_body p seen from ≡ Ok y → DescriptorsFit y.0
unfolding read_body
body_described law p seen from y is =
    then_ok (read_heading p seen.first from) _ y is (λ heading a later.
    then_ok (read_loop p.loop_form heading.2) _ y later (λ own b last.
    then_ok (read_after p.one_zero p.items seen.zero own.1) _ y last (λ items d joins.
    subst (λ z. DescriptorsFit z.0) (same_ok _ _ joins) (record {
      own = loop_described law p.loop_form heading.2 own b;
      items = after_described law p.one_zero p.items seen.zero own.1 items d;
    }))))

placed : {A : Type 0} (section size : ℕ) (r : Result A Fault) (y : A) → in_section section size r ≡ Ok y → r ≡ Ok y
placed section size (Ok x) y is = ap Ok (same_ok x y is)
placed section size (Err fault) y is = cc

section_described : BytesRead → (p : TablePage) (seen : Seen) (place : ℕ) (s : List ℕ) (y : BodyHolding × Seen) → read_section p seen place s ≡ Ok y
    → DescriptorsFit y.0
unfolding read_section
section_described law p seen place s y =
    cond_both (nat_lt p.most (section_length_of s)) _ _ (λ r. r ≡ Ok y → DescriptorsFit y.0)
    (λ long is. cc is)
    (λ short is. body_described law p seen (bits_of (body_of s)) y (placed place (length (body_of s)) (read_body p seen (bits_of (body_of s))) y is))

joined_described : (a b : BodyHolding) → DescriptorsFit a → DescriptorsFit b → DescriptorsFit (joined a b)
joined_described a b one two = record {
  own = All-append (λ d. IsDescriptor d) a.descriptors b.descriptors one.own two.own;
  items = All-append (λ x. AllDescriptors x.descriptors) a.items b.items one.items two.items;
}

sections_described : BytesRead → (p : TablePage) (seen : Seen) (place : ℕ) (ss : List (List ℕ)) (b : BodyHolding) → read_sections p seen place ss ≡ Ok b
    → DescriptorsFit b
unfolding read_sections
sections_described law p seen place [] b is =
    subst DescriptorsFit (same_ok _ _ is) (record { own = All-nil (λ d. IsDescriptor d); items = All-nil (λ x. AllDescriptors x.descriptors) })
sections_described law p seen place (s ∷ ss) b is =
    then_run (read_section p seen place s) _ b is (λ x was later.
    then_run (read_sections p x.1 (place + 1) ss) _ b later (λ more had joins.
    subst DescriptorsFit (same_ok _ _ joins)
    (joined_described x.0 more (section_described law p seen place s x was) (sections_described law p x.1 (place + 1) ss more had))))

pub run_described : BytesRead → (p : TablePage) (ss : List (List ℕ)) (h : TableHolding) → read_run p ss ≡ Ok h → DescriptorsFit h.body
unfolding read_run
run_described law p [] h is = cc is
run_described law p (s ∷ ss) h is = by_head (table_head p s) is
  where
    by_head : (o : Option TableHead) → read_by p o s ss ≡ Ok h → DescriptorsFit h.body
    by_head None reads = cc reads
    by_head (Some head) reads =
        cond_both (too_many p ss) _ _ (λ r. r ≡ Ok h → DescriptorsFit h.body)
        (λ many read. cc read)
        (λ few read.
        then_run (read_sections p unseen 0 (s ∷ ss)) _ h read (λ b was joins.
        subst (λ t. DescriptorsFit t.body) (same_ok _ _ joins) (sections_described law p unseen 0 (s ∷ ss) b was)))
        reads
