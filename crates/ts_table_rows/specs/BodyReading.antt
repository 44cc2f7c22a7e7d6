-- The values of the body of one section, or the first rule that it breaks.
-- ISO/IEC 13818-1, 2.4.4.3 to 2.4.4.9, and ETSI EN 300 468, 5.2: fields follow one another in their order. Which rule
-- is reported, and where, is this project's own rule: the first in the order of the fields.
use Rattle.std.specs.Prelude.{◌≡◌, ℕ, suc, zero, ◌+◌, ◌-◌, ◌*◌, ◌&&◌, List, [], ◌∷◌, ◌++◌, length, Bool, true, false, nat_eq, nat_le, if◌then◌else◌, Option, Some, None, option_to_list, Result, Ok, Err}
use Rattle.ts_bits.specs.TaggedBody.{TaggedBody}
use Rattle.ts_bits.specs.DescriptorLoop.{descriptors_of}
use Rattle.ts_fields.specs.declared.reader.NotRead.{NotRead}
use Rattle.ts_fields.specs.declared.reader.NotRead.TheVariants as not_read
use Rattle.ts_fields.specs.Bits.{bits_of}
use Rattle.ts_fields.specs.Layout.{Row, Held, number, bytes}
use Rattle.ts_fields.specs.Reading.{read_number, read_bytes, read_rest, read_field}
use Rattle.ts_table_rows.specs.declared.fault.TableRule.{TableRule}
use Rattle.ts_table_rows.specs.declared.fault.TableRule.TheVariants.{Short, Loop, Network, Mixed, Time, Trailing}
use Rattle.ts_table_rows.specs.declared.fault.BodyStop.{BodyStop}
use Rattle.ts_table_rows.specs.declared.fault.BodyStop.TheVariants.{At, NoMemory}
use Rattle.ts_table_rows.specs.declared.layout.LoopForm.{LoopForm}
use Rattle.ts_table_rows.specs.declared.layout.LoopForm.TheVariants.{Absent, Counted, ToEnd}
use Rattle.ts_table_rows.specs.declared.read_body.SeenSoFar.{SeenSoFar}
use Rattle.ts_table_rows.specs.TablePages.{ItemPage, TablePage, fixed_part}
use Rattle.ts_table_rows.specs.TableValues.{ItemHolding, BodyHolding}

-- the first broken rule, and the number of bits from the faulty field to the end of the body
pub record Fault : Type 0 where
  pub rule : TableRule
  pub left : ℕ

-- reading goes on after what was read; the first fault stays
infixl 10 ◌>>=◌
abbrev pub ◌>>=◌ : {A B : Type 0} → Result A Fault → (A → Result B Fault) → Result B Fault
(Ok x) >>= next = next x
(Err fault) >>= next = Err fault

abbrev pub broken : {A : Type 0} → TableRule → ℕ → Result A Fault
broken rule left = Err (record { rule = rule; left = left })

abbrev pub or_broken : {A : Type 0} → Option A → TableRule → ℕ → Result A Fault
or_broken (Some x) rule left = Ok x
or_broken None rule left = broken rule left

-- a call stopped where reading stops; out of memory says nothing about what reading gives
abbrev pub Stops : {Y : Type 0} → BodyStop → Result Y Fault → Type 0
Stops (At rule left) read = read ≡ broken rule left
Stops NoMemory read = Unit {0}

-- the result of a call is what reading gives, unless memory runs out
abbrev pub Answers : {X Y : Type 0} → (X → Y) → Result X BodyStop → Result Y Fault → Type 0
Answers view (Ok x) read = read ≡ Ok (view x)
Answers view (Err stop) read = Stops stop read

-- the stop for a field that was not read
abbrev pub IsStopOf : NotRead → TableRule → ℕ → BodyStop → Type 0
IsStopOf not_read.Outside rule left stop = stop ≡ At rule left
IsStopOf not_read.NoMemory rule left stop = stop ≡ NoMemory

-- The parts of a body that are read below have `behind` bits of the body after them, so that the number of bits left
-- to the end of the whole body is known inside a part.

-- fields one after another; where one is missing, or not of its form, this rule is broken
unfoldable pub read_fields : TableRule → ℕ → List Row → List Bool → Result (List Held × List Bool) Fault
read_fields rule behind [] from = Ok ([], from)
read_fields rule behind (r ∷ rs) from = do
  x ← or_broken (read_field r.kind from) rule (length from + behind)
  more ← read_fields rule behind rs x.1
  Ok (option_to_list x.0 ++ more.0, more.1)

-- as many bytes as a number of 12 bits says; they must be before the end of the part; where the number itself is
-- cut, this rule is broken at this place
unfoldable pub read_counted : TableRule → ℕ → ℕ → List Bool → Result (List ℕ × List Bool) Fault
read_counted rule left behind from = do
  size ← or_broken (read_number 12 from) rule left
  or_broken (read_bytes size.0 size.1) Loop (length from + behind)

-- descriptors, or the place of the first that is cut; `left` bits are left from the first descriptor on
abbrev pub or_cut : Result (List TaggedBody) ℕ → ℕ → Result (List TaggedBody) Fault
or_cut (Ok ds) left = Ok ds
or_cut (Err offset) left = broken Loop (left - 8 * offset)

-- descriptors after the number of their bytes
unfoldable pub read_counted_loop : TableRule → ℕ → ℕ → List Bool → Result (List TaggedBody × List Bool) Fault
read_counted_loop rule left behind from = do
  row ← read_counted rule left behind from
  ds ← or_cut (descriptors_of row.0) (8 * length row.0 + length row.1 + behind)
  Ok (ds, row.1)

-- descriptors up to the end of the body
unfoldable pub read_last_loop : List Bool → Result (List TaggedBody × List Bool) Fault
read_last_loop from = do
  row ← or_broken (read_rest from) Short (length from)
  ds ← or_cut (descriptors_of row.0) (length from)
  Ok (ds, row.1)

-- the descriptors of the table itself
unfoldable pub read_loop : LoopForm → List Bool → Result (List TaggedBody × List Bool) Fault
read_loop Absent from = Ok ([], from)
read_loop Counted from = read_counted_loop Short (length from) 0 from
read_loop ToEnd from = read_last_loop from

-- the descriptors of an item, if it has any; their number of bytes belongs to the fixed part of the item
unfoldable pub read_described : Bool → ℕ → ℕ → List Bool → Result (List TaggedBody × List Bool) Fault
read_described false left behind from = Ok ([], from)
read_described true left behind from = read_counted_loop Loop left behind from

-- an item: where its fixed part is cut, the fault is at its first bit; inside a whole one only times can be invalid
unfoldable pub read_item : ItemPage → ℕ → List Bool → Result (ItemHolding × List Bool) Fault
read_item i behind from =
    if nat_le (fixed_part i) (length from) then (do
      x ← read_fields Time behind i.rows from
      ds ← read_described i.described (length from + behind) behind x.1
      Ok (record { values = x.0; descriptors = ds.0 }, ds.1))
    else broken Loop (length from + behind)

-- the number in the first field; none where it holds none
abbrev pub first_number : List Held → Option ℕ
first_number [] = None
first_number (number n ∷ values) = Some n
first_number (bytes b ∷ values) = None

-- whether a first number is 0
abbrev pub is_zero : Option ℕ → Bool
is_zero None = false
is_zero (Some n) = nat_eq n 0

-- whether there was an item with 0 so far; where at most one may be, a second one breaks a rule
abbrev pub count_zero : Bool → Bool → List Held → ℕ → Result Bool Fault
count_zero one_zero seen values left =
    if one_zero && is_zero (first_number values) then (if seen then broken Network left else Ok true) else Ok seen

-- the next item, whether there was one with 0 so far, and the bits after it
unfoldable pub read_next : Bool → ItemPage → Bool → ℕ → List Bool → Result (ItemHolding × Bool × List Bool) Fault
read_next one_zero i seen behind from = do
  x ← read_item i behind from
  now ← count_zero one_zero seen x.0.values (length from + behind)
  Ok (x.0, now, x.1)

-- items up to the end of the part, and whether there was one with 0 so far; `most` is at least the number of bits
unfoldable pub read_items : ℕ → Bool → ItemPage → Bool → ℕ → List Bool → Result (List ItemHolding × Bool) Fault
read_items most one_zero i seen behind [] = Ok ([], seen)
read_items zero one_zero i seen behind (b ∷ bs) = broken Loop 0
read_items (suc most) one_zero i seen behind (b ∷ bs) = do
  x ← read_next one_zero i seen behind (b ∷ bs)
  more ← read_items most one_zero i x.1 behind x.2
  Ok (x.0 ∷ more.0, more.1)

-- `Trailing`, where some bits are left
abbrev pub nothing_left : ℕ → Result Bool Fault
nothing_left left = if nat_eq left 0 then Ok true else broken Trailing left

-- items after four reserved bits and the number of their bytes, with nothing after them
unfoldable pub read_counted_items : Bool → ItemPage → Bool → List Bool → Result (List ItemHolding × Bool) Fault
read_counted_items one_zero i seen from = do
  reserved ← or_broken (read_number 4 from) Short (length from)
  row ← read_counted Short (length reserved.1) 0 reserved.1
  items ← read_items (length (bits_of row.0)) one_zero i seen (length row.1) (bits_of row.0)
  _ ← nothing_left (length row.1)
  Ok items

-- what follows the descriptors of the table itself: items, or nothing
unfoldable pub read_after : Bool → Option ItemPage → Bool → List Bool → Result (List ItemHolding × Bool) Fault
read_after one_zero None seen from = do
  _ ← nothing_left (length from)
  Ok ([], seen)
read_after one_zero (Some i) seen from =
    if i.counted then read_counted_items one_zero i seen from else read_items (length from) one_zero i seen 0 from

-- what the sections so far have shown: the number that all sections have in common, if there was a section, and
-- whether there was an item with 0
pub record Seen : Type 0 where
  pub first : Option ℕ
  pub zero : Bool

-- whether a number is that of the first section
abbrev pub is_same : Option ℕ → Option ℕ → Bool
is_same None found = true
is_same (Some first) None = false
is_same (Some first) (Some n) = nat_eq first n

abbrev pub agreed : Bool → ℕ → Result Bool Fault
agreed same left = if same then Ok true else broken Mixed left

-- what a value of the code has shown
abbrev pub seen_so_far : SeenSoFar → Seen
seen_so_far s = record { first = s.first; zero = s.zero }

-- the fields outside the items, the number that all sections have in common, and the bits after them
unfoldable pub read_heading : TablePage → Option ℕ → List Bool → Result (List Held × Option ℕ × List Bool) Fault
read_heading p first from = do
  common ← read_fields Short 0 p.common from
  _ ← agreed (is_same first (first_number common.0)) (length from)
  head ← read_fields Short 0 p.head common.1
  Ok (common.0 ++ head.0, first_number common.0, head.1)

-- the body of a section, and what the sections have shown so far
unfoldable pub read_body : TablePage → Seen → List Bool → Result (BodyHolding × Seen) Fault
read_body p seen from = do
  heading ← read_heading p seen.first from
  own ← read_loop p.loop_form heading.2
  items ← read_after p.one_zero p.items seen.zero own.1
  Ok (record { values = heading.0; descriptors = own.0; items = items.0 }, record { first = heading.1; zero = items.1 })
