-- What is read is what a table can hold.
use Rattle.std.proofs.Common.{◌≡◌, ℕ, zero, suc, ◌+◌, ◌<◌, ◌≤◌, Bool, true, false, List, [], ◌∷◌, ◌++◌, length, take, drop, refl, sym, ap, ◌∙◌, subst, arith}
use Rattle.std.specs.Prelude.{All, Option, Some, None, Result, Ok, Err, IsTrue, is_some, slice_get, ◌&&◌, ◌||◌, nat_le, nat_lt, if◌then◌else◌}
use Rattle.std.specs.List.{list_all}
use Rattle.std.proofs.Math.Seq.{take-append_seam, drop-append_seam}
use Rattle.std.proofs.lemmas.Bool.{cond_both, and_parts, and_from, lt-ltb, le-leb}
use Rattle.std.proofs.lemmas.List.Elements.{All-head}
use Rattle.ts_bit_rows.proofs.Fields.{field-below}
use Rattle.ts_bits.specs.TaggedBody.{TaggedBody}
use Rattle.ts_fields.specs.Bits.{bits_of}
use Rattle.ts_fields.specs.Layout.{Row, Held}
use Rattle.ts_fields.specs.declared.field.Kind.{Kind}
use Rattle.ts_fields.specs.declared.field.Kind.TheVariants.{Number, Reserved, Zeros, Ones, Free, Flag, Start, Duration, Decimal, Language, CountedText, Text, CountedHex, Hex}
use Rattle.ts_fields.specs.Fitting.{fits, field_fits}
use Rattle.ts_fields.specs.Reading.{read_number, read_rows}
use Rattle.ts_fields.specs.Spelling.{spell_rows, holds}
use Rattle.ts_section.specs.SectionFields.{is_long, table_id_of, section_length_of, extension_of, version_of, number_of, last_number_of, body_of}
use Rattle.ts_section.specs.ValidSection.{IsSection}
use Rattle.ts_table_rows.specs.declared.table.TableHead.{TableHead}
use Rattle.ts_table_rows.specs.declared.layout.LoopForm.{LoopForm}
use Rattle.ts_table_rows.specs.declared.layout.LoopForm.TheVariants.{Absent, Counted, ToEnd}
use Rattle.ts_table_rows.specs.declared.fault.TableRule.{TableRule}
use Rattle.ts_table_rows.specs.declared.fault.TableRule.TheVariants.{Short, Network, Time}
use Rattle.ts_table_rows.specs.TablePages.{ItemPage, TablePage, fixed_part, has_id}
use Rattle.ts_table_rows.specs.TableValues.{ItemHolding, BodyHolding, TableHolding, no_body, joined}
use Rattle.ts_table_rows.specs.TableFitting.{none_there, item_fits, own_fit, items_fit, values_fit, zeros_from, numbers_fit, head_fits, body_fits, table_fits}
use Rattle.ts_table_rows.specs.BodySpelling.{held_count, common_values, head_values}
use Rattle.ts_table_rows.specs.BodyReading.{Fault, Seen, broken, or_broken, read_fields, read_counted, read_loop, read_described, read_item, read_next, read_items, count_zero, is_zero, first_number, nothing_left, read_counted_items, read_after, agreed, is_same, read_heading, read_body}
use Rattle.ts_table_rows.specs.RunReading as run
use Rattle.ts_table_rows.specs.RunReading.{FirstBroken, read_section, read_sections, in_section, kept_head, is_of, table_head, too_many, read_by, read_run, unseen}
use Rattle.ts_table_rows.proofs.ReadLemmas.{then_ok, same_ok, fields_are_rows}

-- what the layer below ensures of fields that are read
abbrev pub RowsFit : Type 0
RowsFit = (rs : List Row) (from : List Bool) (values : List Held) (rest : List Bool) → read_rows rs from ≡ Some (values, rest) → (length from ≡ length (spell_rows rs values) + length rest) × (fits rs values ≡ true)

pub fields_fit : RowsFit → (rule : TableRule) (behind : ℕ) (rs : List Row) (from : List Bool) (x : List Held × List Bool) → read_fields rule behind rs from ≡ Ok x → fits rs x.0 ≡ true
fields_fit law rule behind rs from x is = (law rs from x.0 x.1 (fields_are_rows rule behind rs from x is)).1

-- ---- items

described-none : (described : Bool) (left behind : ℕ) (from : List Bool) (x : List TaggedBody × List Bool) → read_described described left behind from ≡ Ok x → (described || none_there x.0) ≡ true
unfolding read_described
described-none true left behind from x is = refl
described-none false left behind from x is = ap (λ y. none_there y.0) (sym (same_ok _ _ is))

pub item_fit : RowsFit → (i : ItemPage) (behind : ℕ) (from : List Bool) (y : ItemHolding × List Bool) → read_item i behind from ≡ Ok y → item_fits i y.0 ≡ true
unfolding read_item
item_fit law i behind from y =
    cond_both (nat_le (fixed_part i) (length from)) _ _ (λ r. r ≡ Ok y → item_fits i y.0 ≡ true)
    (λ enough is.
    then_ok (read_fields Time behind i.rows from) _ y is (λ x was later.
    then_ok (read_described i.described (length from + behind) behind x.1) _ y later (λ ds had joins.
    ap (λ z. item_fits i z.0) (sym (same_ok _ _ joins))
    ∙ and_from (fits i.rows x.0) (i.described || none_there ds.0) (fields_fit law Time behind i.rows from x was) (described-none i.described (length from + behind) behind x.1 ds had))))
    (λ few is. cc)

-- one item more, and the items with 0
zeros_by : (P : Option Bool → Type 0) (zero_here stood now : Bool) (left : ℕ) (after : Bool → Option Bool) → (if zero_here then (if stood then broken Network left else Ok true) else Ok stood) ≡ Ok now
    → P (after now) → P (if zero_here then (if stood then None else after true) else after stood)
zeros_by P true true now left after is goal = cc
zeros_by P true false now left after is goal = subst (λ b. P (after b)) (sym (same_ok _ _ is)) goal
zeros_by P false stood now left after is goal = subst (λ b. P (after b)) (sym (same_ok _ _ is)) goal

pub zeros_more : (one_zero seen now : Bool) (x : ItemHolding) (xs : List ItemHolding) (left : ℕ) → count_zero one_zero seen x.values left ≡ Ok now → zeros_from one_zero seen (x ∷ xs) ≡ zeros_from one_zero now xs
unfolding zeros_from
zeros_more one_zero seen now x xs left is =
    zeros_by (λ o. o ≡ zeros_from one_zero now xs) (one_zero && is_zero (first_number x.values)) seen now left (λ b. zeros_from one_zero b xs) is refl

zeros_none : (one_zero seen : Bool) → zeros_from one_zero seen [] ≡ Some seen
unfolding zeros_from
zeros_none one_zero seen = refl

next_fit : RowsFit → (one_zero : Bool) (i : ItemPage) (seen : Bool) (behind : ℕ) (from : List Bool) (y : ItemHolding × Bool × List Bool) → read_next one_zero i seen behind from ≡ Ok y → (item_fits i y.0 ≡ true) × (count_zero one_zero seen y.0.values (length from + behind) ≡ Ok y.1)
unfolding read_next
next_fit law one_zero i seen behind from y is =
    then_ok (read_item i behind from) _ y is (λ x was later.
    then_ok (count_zero one_zero seen x.0.values (length from + behind)) _ y later (λ now had joins.
    let e : ◌≡◌ {A = ItemHolding × Bool × List Bool} (x.0, now, x.1) y = same_ok _ _ joins in
    (ap (λ z. item_fits i z.0) (sym e) ∙ item_fit law i behind from x was, ap (λ z. count_zero one_zero seen z.0.values (length from + behind)) (sym e) ∙ had ∙ ap (λ z. Ok z.1) e)))

pub items_read_fit : RowsFit → (most : ℕ) (one_zero : Bool) (i : ItemPage) (seen : Bool) (behind : ℕ) (from : List Bool) (y : List ItemHolding × Bool) → read_items most one_zero i seen behind from ≡ Ok y → (list_all (item_fits i) y.0 ≡ true) × (zeros_from one_zero seen y.0 ≡ Some y.1)
unfolding read_items
items_read_fit law most one_zero i seen behind [] y is =
    let e : ◌≡◌ {A = List ItemHolding × Bool} ([], seen) y = same_ok _ _ is in
    (ap (λ z. list_all (item_fits i) z.0) (sym e), ap (λ z. zeros_from one_zero seen z.0) (sym e) ∙ zeros_none one_zero seen ∙ ap (λ z. Some z.1) e)
items_read_fit law zero one_zero i seen behind (b ∷ bs) y is = cc
items_read_fit law (suc most) one_zero i seen behind (b ∷ bs) y is =
    then_ok (read_next one_zero i seen behind (b ∷ bs)) _ y is (λ x was later.
    then_ok (read_items most one_zero i x.1 behind x.2) _ y later (λ more had joins.
    let e : ◌≡◌ {A = List ItemHolding × Bool} (x.0 ∷ more.0, more.1) y = same_ok _ _ joins in
    let here = next_fit law one_zero i seen behind (b ∷ bs) x was in
    let later_fit = items_read_fit law most one_zero i x.1 behind x.2 more had in (
      ap (λ z. list_all (item_fits i) z.0) (sym e) ∙ and_from (item_fits i x.0) (list_all (item_fits i) more.0) here.0 later_fit.0,
      ap (λ z. zeros_from one_zero seen z.0) (sym e) ∙ zeros_more one_zero seen x.1 x.0 more.0 (length (b ∷ bs) + behind) here.1 ∙ later_fit.1 ∙ ap (λ z. Some z.1) e,
    )))

counted_fit : RowsFit → (one_zero : Bool) (i : ItemPage) (seen : Bool) (from : List Bool) (y : List ItemHolding × Bool) → read_counted_items one_zero i seen from ≡ Ok y → (list_all (item_fits i) y.0 ≡ true) × (zeros_from one_zero seen y.0 ≡ Some y.1)
unfolding read_counted_items
counted_fit law one_zero i seen from y is =
    then_ok (or_broken (read_number 4 from) Short (length from)) _ y is (λ reserved a later.
    then_ok (read_counted Short (length reserved.1) 0 reserved.1) _ y later (λ row b last.
    then_ok (read_items (length (bits_of row.0)) one_zero i seen (length row.1) (bits_of row.0)) _ y last (λ items c ends.
    then_ok (nothing_left (length row.1)) _ y ends (λ none d joins.
    let e : items ≡ y = same_ok _ _ joins in
    let fit = items_read_fit law (length (bits_of row.0)) one_zero i seen (length row.1) (bits_of row.0) items c in
    (ap (λ z. list_all (item_fits i) z.0) (sym e) ∙ fit.0, ap (λ z. zeros_from one_zero seen z.0) (sym e) ∙ fit.1 ∙ ap (λ z. Some z.1) e)))))

pub after_fit : RowsFit → (one_zero : Bool) (i : Option ItemPage) (seen : Bool) (from : List Bool) (y : List ItemHolding × Bool) → read_after one_zero i seen from ≡ Ok y → (items_fit i y.0 ≡ true) × (zeros_from one_zero seen y.0 ≡ Some y.1)
unfolding read_after
after_fit law one_zero None seen from y is =
    then_ok (nothing_left (length from)) _ y is (λ none was joins.
    let e : ◌≡◌ {A = List ItemHolding × Bool} ([], seen) y = same_ok _ _ joins in
    (ap (λ z. items_fit None z.0) (sym e), ap (λ z. zeros_from one_zero seen z.0) (sym e) ∙ zeros_none one_zero seen ∙ ap (λ z. Some z.1) e))
after_fit law one_zero (Some i) seen from y is =
    cond_both i.counted (read_counted_items one_zero i seen from) (read_items (length from) one_zero i seen 0 from) (λ r. r ≡ Ok y → (items_fit (Some i) y.0 ≡ true) × (zeros_from one_zero seen y.0 ≡ Some y.1))
    (λ counted read. counted_fit law one_zero i seen from y read)
    (λ uncounted read. items_read_fit law (length from) one_zero i seen 0 from y read) is

-- ---- fields and descriptors outside the items

own_read_fit : (form : LoopForm) (from : List Bool) (y : List TaggedBody × List Bool) → read_loop form from ≡ Ok y → own_fit form y.0 ≡ true
unfolding read_loop
own_read_fit Absent from y is = ap (λ z. none_there z.0) (sym (same_ok _ _ is))
own_read_fit Counted from y is = refl
own_read_fit ToEnd from y is = refl

first_there : (k : Kind) (values : List Held) (rest : ℕ) → field_fits k (slice_get values 0) ≡ true → length (drop (holds k) values) ≡ rest → length values ≡ holds k + rest
first_there (Ones count) values rest fit is = omega (arith, is)
first_there (Free count) values rest fit is = omega (arith, is)
first_there (Number count) [] rest fit is = cc
first_there (Reserved count) [] rest fit is = cc
first_there (Zeros count) [] rest fit is = cc
first_there (Number count) (v ∷ vs) rest fit is = omega (arith, is)
first_there (Reserved count) (v ∷ vs) rest fit is = omega (arith, is)
first_there (Zeros count) (v ∷ vs) rest fit is = omega (arith, is)
first_there Flag [] rest fit is = cc
first_there Flag (v ∷ vs) rest fit is = omega (arith, is)
first_there Start [] rest fit is = cc
first_there Start (v ∷ vs) rest fit is = omega (arith, is)
first_there Duration [] rest fit is = cc
first_there Duration (v ∷ vs) rest fit is = omega (arith, is)
first_there (Decimal digits) [] rest fit is = cc
first_there (Decimal digits) (v ∷ vs) rest fit is = omega (arith, is)
first_there Language [] rest fit is = cc
first_there Language (v ∷ vs) rest fit is = omega (arith, is)
first_there CountedText [] rest fit is = cc
first_there CountedText (v ∷ vs) rest fit is = omega (arith, is)
first_there Text [] rest fit is = cc
first_there Text (v ∷ vs) rest fit is = omega (arith, is)
first_there Hex [] rest fit is = cc
first_there CountedHex [] rest fit is = cc
first_there Hex (v ∷ vs) rest fit is = omega (arith, is)
first_there CountedHex (v ∷ vs) rest fit is = omega (arith, is)

-- values that fit are as many as their rows have
pub fit_count : (rs : List Row) (values : List Held) → fits rs values ≡ true → length values ≡ held_count rs
unfolding fits
fit_count [] [] fit = refl
fit_count [] (v ∷ vs) fit = cc
fit_count (r ∷ rs) values fit =
    let parts = and_parts (field_fits r.kind (slice_get values 0)) (fits rs (drop (holds r.kind) values)) fit in
    first_there r.kind values (held_count rs) parts.0 (fit_count rs (drop (holds r.kind) values) parts.1)

heading_fit : RowsFit → (p : TablePage) (first : Option ℕ) (from : List Bool) (y : List Held × Option ℕ × List Bool) → read_heading p first from ≡ Ok y → values_fit p y.0 ≡ true
unfolding read_heading
heading_fit law p first from y is =
    then_ok (read_fields Short 0 p.common from) _ y is (λ common a later.
    then_ok (agreed (is_same first (first_number common.0)) (length from)) _ y later (λ same b last.
    then_ok (read_fields Short 0 p.head common.1) _ y last (λ head c joins.
    let e : common.0 ++ head.0 ≡ y.0 = ap (λ z. z.0) (same_ok _ _ joins) in
    let one = fields_fit law Short 0 p.common from common a in
    let two = fields_fit law Short 0 p.head common.1 head c in
    let count = fit_count p.common common.0 one in
    let front : common_values p (common.0 ++ head.0) ≡ common.0 = ap (λ n. take n (common.0 ++ head.0)) (sym count) ∙ take-append_seam common.0 head.0 in
    let back : head_values p (common.0 ++ head.0) ≡ head.0 = ap (λ n. drop n (common.0 ++ head.0)) (sym count) ∙ drop-append_seam common.0 head.0 in
    ap (values_fit p) (sym e)
    ∙ and_from (fits p.common (common_values p (common.0 ++ head.0))) (fits p.head (head_values p (common.0 ++ head.0))) (ap (fits p.common) front ∙ one) (ap (fits p.head) back ∙ two))))

-- a body that was read fits
pub record ReadFit (p : TablePage) (seen : Bool) (b : BodyHolding) (now : Bool) : Type 0 where
  pub own : own_fit p.loop_form b.descriptors ≡ true
  pub items : items_fit p.items b.items ≡ true
  pub zeros : zeros_from p.one_zero seen b.items ≡ Some now

body_fit : RowsFit → (p : TablePage) (seen : Seen) (from : List Bool) (y : BodyHolding × Seen) → read_body p seen from ≡ Ok y → (values_fit p y.0.values ≡ true) × ReadFit p seen.zero y.0 y.1.zero
unfolding read_body
body_fit law p seen from y is =
    then_ok (read_heading p seen.first from) _ y is (λ heading a later.
    then_ok (read_loop p.loop_form heading.2) _ y later (λ own b last.
    then_ok (read_after p.one_zero p.items seen.zero own.1) _ y last (λ items c joins.
    let e = same_ok _ _ joins in
    let fit = after_fit law p.one_zero p.items seen.zero own.1 items c in (
      ap (λ z. values_fit p z.0.values) (sym e) ∙ heading_fit law p seen.first from heading a,
      record {
        own = ap (λ z. own_fit p.loop_form z.0.descriptors) (sym e) ∙ own_read_fit p.loop_form heading.2 own b;
        items = ap (λ z. items_fit p.items z.0.items) (sym e) ∙ fit.0;
        zeros = ap (λ z. zeros_from p.one_zero seen.zero z.0.items) (sym e) ∙ fit.1 ∙ ap (λ z. Some z.1.zero) e;
      },
    ))))

-- ---- sections

none-append : (a b : List TaggedBody) → none_there a ≡ true → none_there b ≡ true → none_there (a ++ b) ≡ true
none-append [] b one two = two
none-append (d ∷ a) b one two = cc

pub own-append : (form : LoopForm) (a b : List TaggedBody) → own_fit form a ≡ true → own_fit form b ≡ true → own_fit form (a ++ b) ≡ true
own-append Absent a b one two = none-append a b one two
own-append Counted a b one two = refl
own-append ToEnd a b one two = refl

all-append : {A : Type 0} (t : A → Bool) (a b : List A) → list_all t a ≡ true → list_all t b ≡ true → list_all t (a ++ b) ≡ true
all-append t [] b one two = two
all-append t (x ∷ a) b one two =
    let parts = and_parts (t x) (list_all t a) one in
    and_from (t x) (list_all t (a ++ b)) parts.0 (all-append t a b parts.1 two)

pub items-append : (i : Option ItemPage) (a b : List ItemHolding) → items_fit i a ≡ true → items_fit i b ≡ true → items_fit i (a ++ b) ≡ true
items-append None [] b one two = two
items-append None (x ∷ a) b one two = cc
items-append (Some i) a b one two = all-append (item_fits i) a b one two

zeros_through : (zero_here stood m : Bool) (after later : Bool → Option Bool) (whole : Option Bool) → (if zero_here then (if stood then None else after true) else after stood) ≡ Some m → ((b : Bool) → after b ≡ Some m → later b ≡ whole)
    → (if zero_here then (if stood then None else later true) else later stood) ≡ whole
zeros_through true true m after later whole is goal = cc
zeros_through true false m after later whole is goal = goal true is
zeros_through false stood m after later whole is goal = goal stood is

pub zeros-append : (one_zero seen m : Bool) (a b : List ItemHolding) → zeros_from one_zero seen a ≡ Some m → zeros_from one_zero seen (a ++ b) ≡ zeros_from one_zero m b
unfolding zeros_from
zeros-append one_zero seen m [] b is = ap (λ s. zeros_from one_zero s b) (let e : seen ≡ m = cc in e)
zeros-append one_zero seen m (x ∷ a) b is =
    zeros_through (one_zero && is_zero (first_number x.values)) seen m (λ s. zeros_from one_zero s a) (λ s. zeros_from one_zero s (a ++ b)) (zeros_from one_zero m b) is (λ s later. zeros-append one_zero s m a b later)

then_run : {A B P : Type 0} (r : Result A FirstBroken) (next : A → Result B FirstBroken) (y : B) → (run.◌>>=◌ r next) ≡ Ok y → ((x : A) → r ≡ Ok x → next x ≡ Ok y → P) → P
then_run (Ok x) next y is goal = goal x refl is
then_run (Err fault) next y is goal = cc

same_run : {A : Type 0} (x y : A) → ◌≡◌ {A = Result A FirstBroken} (Ok x) (Ok y) → x ≡ y
same_run x y is = cc

placed : {A : Type 0} (section size : ℕ) (r : Result A Fault) (y : A) → in_section section size r ≡ Ok y → r ≡ Ok y
placed section size (Ok x) y is = ap Ok (same_run x y is)
placed section size (Err fault) y is = cc

section_fit : RowsFit → (p : TablePage) (seen : Seen) (place : ℕ) (s : List ℕ) (y : BodyHolding × Seen) → read_section p seen place s ≡ Ok y → (values_fit p y.0.values ≡ true) × ReadFit p seen.zero y.0 y.1.zero
unfolding read_section
section_fit law p seen place s y =
    cond_both (nat_lt p.most (section_length_of s)) _ _ (λ r. r ≡ Ok y → (values_fit p y.0.values ≡ true) × ReadFit p seen.zero y.0 y.1.zero)
    (λ long is. cc)
    (λ short is. body_fit law p seen (bits_of (body_of s)) y (placed place (length (body_of s)) (read_body p seen (bits_of (body_of s))) y is))

-- two bodies joined
join_fit : (p : TablePage) (seen m now : Bool) (a b : BodyHolding) → ReadFit p seen a m → ReadFit p m b now → ReadFit p seen (joined a b) now
join_fit p seen m now a b one two = record {
  own = own-append p.loop_form a.descriptors b.descriptors one.own two.own;
  items = items-append p.items a.items b.items one.items two.items;
  zeros = zeros-append p.one_zero seen m a.items b.items one.zeros ∙ two.zeros;
}

none_fit : (p : TablePage) (seen : Bool) → ReadFit p seen no_body seen
none_fit p seen = record { own = own_none p.loop_form; items = items_none p.items; zeros = zeros_none p.one_zero seen }
  where
    own_none : (form : LoopForm) → own_fit form [] ≡ true
    own_none Absent = refl
    own_none Counted = refl
    own_none ToEnd = refl

    items_none : (i : Option ItemPage) → items_fit i [] ≡ true
    items_none None = refl
    items_none (Some i) = refl

sections_fit : RowsFit → (p : TablePage) (seen : Seen) (place : ℕ) (ss : List (List ℕ)) (b : BodyHolding) → read_sections p seen place ss ≡ Ok b → (now : Bool) × ReadFit p seen.zero b now
unfolding read_sections
sections_fit law p seen place [] b is = (seen.zero, subst (λ c. ReadFit p seen.zero c seen.zero) (same_run _ _ is) (none_fit p seen.zero))
sections_fit law p seen place (s ∷ ss) b is =
    then_run (read_section p seen place s) _ b is (λ x was later.
    then_run (read_sections p x.1 (place + 1) ss) _ b later (λ more had joins.
    let here = section_fit law p seen place s x was in
    let rest = sections_fit law p x.1 (place + 1) ss more had in
    (rest.0, subst (λ c. ReadFit p seen.zero c rest.0) (same_run _ _ joins) (join_fit p seen.zero x.1.zero rest.0 x.0 more here.1 rest.1))))

first_fit : RowsFit → (p : TablePage) (seen : Seen) (place : ℕ) (s : List ℕ) (ss : List (List ℕ)) (b : BodyHolding) → read_sections p seen place (s ∷ ss) ≡ Ok b → values_fit p b.values ≡ true
unfolding read_sections
first_fit law p seen place s ss b is =
    then_run (read_section p seen place s) _ b is (λ x was later.
    then_run (read_sections p x.1 (place + 1) ss) _ b later (λ more had joins.
    ap (λ c. values_fit p c.values) (sym (same_run _ _ joins)) ∙ (section_fit law p seen place s x was).0))

is_true : (b : Bool) → b ≡ true → IsTrue b
is_true true h = refl
is_true false h = cc

head_fit : (p : TablePage) (s : List ℕ) (head : TableHead) → IsSection s → table_head p s ≡ Some head → head_fits p head ≡ true
head_fit p s head valid =
    cond_both (is_of p s) _ _ (λ o. o ≡ Some head → head_fits p head ≡ true)
    (λ ours is.
    let parts = and_parts (is_long s) (has_id p.ids (table_id_of s)) ours in
    let long = valid.long (is_true (is_long s) parts.0) in
    let same : kept_head p s ≡ head = cc in
    let id : table_id_of s < 255 = omega (arith, field-below s 0 8, valid.no_stuffing) in
    subst (λ h. head_fits p h ≡ true) same
    (and_from (has_id p.ids (table_id_of s)) _ parts.1
    (and_from (nat_lt (table_id_of s) 255) _ (lt-ltb (table_id_of s) 255 id)
    (and_from (nat_lt (extension_of s) 65536) _ (lt-ltb (extension_of s) 65536 (omega (arith, field-below s 24 16)))
    (and_from (nat_lt (version_of s) 32) _ (lt-ltb (version_of s) 32 (omega (arith, field-below s 42 5)))
    (by_keeping p.keeps_numbers (number_of s) (last_number_of s) long.numbers (omega (arith, field-below s 56 8))))))))
    (λ other is. cc)
  where
    by_keeping : (keeps : Bool) (n l : ℕ) → n ≤ l → l < 256 → numbers_fit keeps (if keeps then Some (n, l) else None) ≡ true
    by_keeping true n l order small = and_from (nat_le n l) (nat_lt l 256) (le-leb n l order) (lt-ltb l 256 small)
    by_keeping false n l order small = refl

some_is : (o : Option Bool) (b : Bool) → o ≡ Some b → is_some o ≡ true
some_is o b is = rw is refl

-- the values of a run as a table fit
pub run_fit : RowsFit → (p : TablePage) (ss : List (List ℕ)) (h : TableHolding) → All (λ s. IsSection s) ss → read_run p ss ≡ Ok h → table_fits p h ≡ true
unfolding read_run
run_fit law p [] h valid is = cc
run_fit law p (s ∷ ss) h valid is = by_head (table_head p s) refl is
  where
    by_head : (o : Option TableHead) → table_head p s ≡ o → read_by p o s ss ≡ Ok h → table_fits p h ≡ true
    by_head None found reads = cc
    by_head (Some head) found reads =
        cond_both (too_many p ss) _ _ (λ r. r ≡ Ok h → table_fits p h ≡ true)
        (λ many read. cc)
        (λ few read.
        then_run (read_sections p unseen 0 (s ∷ ss)) _ h read (λ b was joins.
        let e = same_run _ _ joins in
        let fit = sections_fit law p unseen 0 (s ∷ ss) b was in
        let body : body_fits p b ≡ true =
        and_from (values_fit p b.values) _ (first_fit law p unseen 0 s ss b was)
        (and_from (own_fit p.loop_form b.descriptors) _ fit.1.own
        (and_from (items_fit p.items b.items) _ fit.1.items (some_is (zeros_from p.one_zero false b.items) fit.0 fit.1.zeros))) in
        subst (λ t. table_fits p t ≡ true) e
        (and_from (head_fits p head) (body_fits p b) (head_fit p s head (All-head (λ s. IsSection s) s ss valid) found) body)))
        reads
