-- Reading fields, one after another.
-- ISO/IEC 13818-1, 2.6, and ETSI EN 300 468, 6.2: fields follow one another without a gap.
use Rattle.std.specs.Prelude.{◌≡◌, ℕ, suc, zero, ◌+◌, ◌*◌, ◌/◌, ◌^◌, ◌&&◌, List, [], ◌∷◌, ◌++◌, length, take, drop, Bool, nat_eq, nat_le, if◌then◌else◌, Option, Some, None, option_to_list, Result, Ok, Err}
use Rattle.std.specs.List.{list_all}
use Rattle.ts_fields.specs.declared.field.Kind.{Kind}
use Rattle.ts_fields.specs.declared.field.Kind.TheVariants.{Number, Reserved, Zeros, Ones, Free, Flag, Start, Duration, Decimal, Language, CountedText, CountedHex, Text, Hex}
use Rattle.ts_fields.specs.declared.reader.NotRead.{NotRead}
use Rattle.ts_fields.specs.declared.reader.NotRead.TheVariants as stops
use Rattle.ts_fields.specs.Bits.{number_of}
use Rattle.ts_fields.specs.Layout.{Row, Held, number, bytes}
use Rattle.ts_fields.specs.Times.{is_start, is_time}

-- reading goes on with what was read; where nothing was read, nothing is read after it
infixl 10 ◌>>=◌
abbrev pub ◌>>=◌ : {A B : Type 0} → Option A → (A → Option B) → Option B
None >>= next = None
(Some x) >>= next = next x

-- a call stopped because reading gives nothing; out of memory says nothing about what reading gives
abbrev pub Fails : {Y : Type 0} → NotRead → Option Y → Type 0
Fails stops.Outside read = read ≡ None
Fails stops.NoMemory read = Unit {0}

-- the result of a call is what reading gives, unless memory runs out
abbrev pub Gives : {X Y : Type 0} → (X → Y) → Result X NotRead → Option Y → Type 0
Gives view (Ok x) read = read ≡ Some (view x)
Gives view (Err stop) read = Fails stop read

-- a thing that was read, and the bits after it
abbrev pub Front : Type 0 → Type 0
Front X = Option (X × List Bool)

-- an unsigned integer of this many bits
unfoldable pub read_number : ℕ → List Bool → Front ℕ
read_number count from =
    if nat_le count (length from) then Some (number_of (take count from), drop count from) else None

-- this many bytes
unfoldable pub read_bytes : ℕ → List Bool → Front (List ℕ)
read_bytes zero from = Some ([], from)
read_bytes (suc count) from = do
  first ← read_number 8 from
  more ← read_bytes count first.1
  Some (first.0 ∷ more.0, more.1)

-- a number of this many decimal digits of four bits each, most significant first
unfoldable pub read_decimal : ℕ → List Bool → Front ℕ
read_decimal zero from = Some (0, from)
read_decimal (suc digits) from = do
  first ← read_number 4 from
  if nat_le first.0 9 then (do
    more ← read_decimal digits first.1
    Some (first.0 * 10 ^ digits + more.0, more.1)) else None

-- whole bytes up to the end
unfoldable pub read_rest : List Bool → Front (List ℕ)
read_rest from = do
  all ← read_bytes (length from / 8) from
  if nat_eq (length all.1) 0 then Some (all.0, all.1) else None

-- a byte of printable ASCII, which includes the space
abbrev pub is_printable : ℕ → Bool
is_printable byte = nat_le 0x20 byte && nat_le byte 0x7E

-- bytes of printable ASCII
abbrev pub are_printable : List ℕ → Bool
are_printable row = list_all is_printable row

-- the value of a field, if it is not reserved, and the bits after it
unfoldable pub read_field : Kind → List Bool → Front (Option Held)
read_field (Number count) from = do
  x ← read_number count from
  Some (Some (number x.0), x.1)
read_field (Reserved count) from = do
  x ← read_number count from
  Some (Some (number x.0), x.1)
read_field (Zeros count) from = do
  x ← read_number count from
  Some (Some (number x.0), x.1)
read_field (Ones count) from = do
  x ← read_number count from
  if nat_eq (x.0 + 1) (2 ^ count) then Some (None, x.1) else None
read_field (Free count) from = do
  x ← read_number count from
  Some (None, x.1)
read_field Flag from = do
  x ← read_number 1 from
  Some (Some (number x.0), x.1)
read_field (Decimal digits) from = do
  x ← read_decimal digits from
  Some (Some (number x.0), x.1)
read_field Start from = do
  x ← read_number 40 from
  if is_start x.0 then Some (Some (number x.0), x.1) else None
read_field Duration from = do
  x ← read_number 24 from
  if is_time 99 x.0 then Some (Some (number x.0), x.1) else None
read_field Language from = do
  x ← read_bytes 3 from
  if are_printable x.0 then Some (Some (bytes x.0), x.1) else None
read_field CountedText from = do
  count ← read_number 8 from
  x ← read_bytes count.0 count.1
  Some (Some (bytes x.0), x.1)
read_field CountedHex from = do
  count ← read_number 8 from
  x ← read_bytes count.0 count.1
  Some (Some (bytes x.0), x.1)
read_field Text from = do
  x ← read_rest from
  Some (Some (bytes x.0), x.1)
read_field Hex from = do
  x ← read_rest from
  Some (Some (bytes x.0), x.1)

-- the values of the fields of some rows, in the order of the rows, and the bits after them
unfoldable pub read_rows : List Row → List Bool → Front (List Held)
read_rows [] from = Some ([], from)
read_rows (r ∷ rs) from = do
  x ← read_field r.kind from
  more ← read_rows rs x.1
  Some (option_to_list x.0 ++ more.0, more.1)
