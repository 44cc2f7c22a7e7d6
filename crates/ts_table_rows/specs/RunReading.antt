-- The values of a run of sections as a table, or the first rule that it breaks.
-- ISO/IEC 13818-1, 2.4.4, and ETSI EN 300 468, 5.2. Sections are taken in order. Which rule is reported, and where,
-- is this project's own rule.
use Rattle.std.specs.Prelude.{◌≡◌, ℕ, ◌+◌, ◌-◌, ◌*◌, ◌/◌, ◌&&◌, List, [], ◌∷◌, length, Bool, false, nat_lt, if◌then◌else◌, Option, Some, None, Result, Ok, Err}
use Rattle.ts_section.specs.SectionFields.{is_long, table_id_of, section_length_of, extension_of, version_of, current_of, number_of, last_number_of, body_of}
use Rattle.ts_section.specs.declared.section.TheConstants.{LONG_BODY_PLACE}
use Rattle.ts_fields.specs.Bits.{bits_of}
use Rattle.ts_table_rows.specs.declared.fault.TableRule.{TableRule}
use Rattle.ts_table_rows.specs.declared.fault.TableRule.TheVariants.{WrongTable, Sections, TooLong}
use Rattle.ts_table_rows.specs.declared.fault.TableFault.{TableFault}
use Rattle.ts_table_rows.specs.declared.fault.TableFault.TheVariants.{Broken, NoMemory}
use Rattle.ts_table_rows.specs.declared.fault.BodyStop.{BodyStop}
use Rattle.ts_table_rows.specs.declared.fault.BodyStop.TheVariants as stops
use Rattle.ts_table_rows.specs.declared.table.TableHead.{TableHead}
use Rattle.ts_table_rows.specs.TablePages.{TablePage, has_id}
use Rattle.ts_table_rows.specs.TableValues.{BodyHolding, TableHolding, no_body, joined}
use Rattle.ts_table_rows.specs.BodyReading.{Fault, Seen, read_body}

-- a section of the run, a byte of it, and the rule that is broken there
pub record FirstBroken : Type 0 where
  pub section : ℕ
  pub offset : ℕ
  pub rule : TableRule

infixl 10 ◌>>=◌
abbrev pub ◌>>=◌ : {A B : Type 0} → Result A FirstBroken → (A → Result B FirstBroken) → Result B FirstBroken
(Ok x) >>= next = next x
(Err fault) >>= next = Err fault

abbrev pub broken_at : {A : Type 0} → ℕ → ℕ → TableRule → Result A FirstBroken
broken_at section offset rule = Err (record { section = section; offset = offset; rule = rule })

-- a fault in the body of a section, as a byte of the section: the body begins after the head of the long form
abbrev pub in_section : {A : Type 0} → ℕ → ℕ → Result A Fault → Result A FirstBroken
in_section section size (Ok x) = Ok x
in_section section size (Err fault) = broken_at section (LONG_BODY_PLACE + (8 * size - fault.left) / 8) fault.rule

-- one section of a run
unfoldable pub read_section : TablePage → Seen → ℕ → List ℕ → Result (BodyHolding × Seen) FirstBroken
read_section p seen section s =
    if nat_lt p.most (section_length_of s) then broken_at section 1 TooLong
    else in_section section (length (body_of s)) (read_body p seen (bits_of (body_of s)))

-- the sections from one on, with their lists joined
unfoldable pub read_sections : TablePage → Seen → ℕ → List (List ℕ) → Result BodyHolding FirstBroken
read_sections p seen section [] = Ok no_body
read_sections p seen section (s ∷ ss) = do
  x ← read_section p seen section s
  more ← read_sections p x.1 (section + 1) ss
  Ok (joined x.0 more)

-- no section was read yet
abbrev pub unseen : Seen
unseen = record { first = None; zero = false }

-- the table_id of a section is one of the table, and the section is in the long form
abbrev pub is_of : TablePage → List ℕ → Bool
is_of p s = is_long s && has_id p.ids (table_id_of s)

-- what a table keeps of the head of its first section
abbrev pub kept_head : TablePage → List ℕ → TableHead
kept_head p s = record {
  table_id = table_id_of s;
  extension = extension_of s;
  version = version_of s;
  current = current_of s;
  numbers = if p.keeps_numbers then Some (number_of s, last_number_of s) else None;
}

-- the same, where the section is of the table
abbrev pub table_head : TablePage → List ℕ → Option TableHead
table_head p s = if is_of p s then Some (kept_head p s) else None

-- whether sections follow the first one of a table with one section only
abbrev pub too_many : TablePage → List (List ℕ) → Bool
too_many p ss = p.single && nat_lt 0 (length ss)

-- a run whose first section has this head
abbrev pub read_by : TablePage → Option TableHead → List ℕ → List (List ℕ) → Result TableHolding FirstBroken
read_by p None s ss = broken_at 0 0 WrongTable
read_by p (Some head) s ss =
    if too_many p ss then broken_at 0 0 Sections
    else (do
      body ← read_sections p unseen 0 (s ∷ ss)
      Ok (record { head = head; body = body }))

-- a run as a table, or the first rule that it breaks
unfoldable pub read_run : TablePage → List (List ℕ) → Result TableHolding FirstBroken
read_run p [] = broken_at 0 0 WrongTable
read_run p (s ∷ ss) = read_by p (table_head p s) s ss

-- a fault of the code
abbrev pub fault_at : ℕ → ℕ → TableRule → TableFault
fault_at section offset rule = Broken section offset rule

-- a stop in the body of a section, as a fault of the code
abbrev pub body_fault : BodyStop → ℕ → ℕ → TableFault
body_fault (stops.At rule left) section size = Broken section (LONG_BODY_PLACE + (8 * size - left) / 8) rule
body_fault stops.NoMemory section size = NoMemory

-- a call stopped at the first broken rule; out of memory says nothing about the run
abbrev pub Breaks : {Y : Type 0} → TableFault → Result Y FirstBroken → Type 0
Breaks (Broken section offset rule) read = read ≡ broken_at section offset rule
Breaks NoMemory read = Unit {0}

-- the result of a call is what reading the run gives, unless memory runs out
abbrev pub Tells : {X Y : Type 0} → (X → Y) → Result X TableFault → Result Y FirstBroken → Type 0
Tells view (Ok x) read = read ≡ Ok (view x)
Tells view (Err fault) read = Breaks fault read
