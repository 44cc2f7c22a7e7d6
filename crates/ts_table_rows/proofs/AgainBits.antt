-- Bits, bytes and fields that are written are read again.
use Rattle.std.proofs.Common.{◌≡◌, ℕ, ◌/◌, ◌%◌, ◌^◌, ◌<◌, Bool, true, false, List, [], ◌∷◌, ◌++◌, length, refl, sym, ap, ◌∙◌, arith, append-nil, length-append}
use Rattle.std.specs.Prelude.{Some, Ok, All, ◌||◌, not, nat_lt, if◌then◌else◌}
use Rattle.std.proofs.lemmas.Bool.{and_parts, and_from, lt-ltb, false≢true}
use Rattle.std.proofs.lemmas.List.{nil_from_length}
use Rattle.std.proofs.lemmas.Grind.{flat_map-append}
use Rattle.std.proofs.lemmas.List.Elements.{All-head, All-tail}
use Rattle.ts_bits.specs.TaggedBody.{TaggedBody, IsDescriptor, loop_bytes}
use Rattle.ts_bits.specs.DescriptorLoop.{descriptors_of}
use Rattle.ts_fields.specs.Bits.{bits, bits_of}
use Rattle.ts_fields.specs.Layout.{Row, Held}
use Rattle.ts_fields.specs.Fitting.{fits, are_bytes}
use Rattle.ts_fields.specs.Reading.{read_number, read_bytes, read_rest, read_rows}
use Rattle.ts_fields.specs.Spelling.{spell_rows}
use Rattle.ts_fields.specs.SoundRows.{are_sound, goes_to_end, is_open, is_nil, ends_last}
use Rattle.ts_table_rows.specs.TablePages.{closed_rows}
use Rattle.ts_table_rows.specs.BodySpelling.{read_row, bytes_of}
use Rattle.ts_table_rows.specs.BodyReading.{read_fields}
use Rattle.ts_table_rows.specs.declared.fault.TableRule.{TableRule}
use Rattle.ts_table_rows.proofs.ReadLemmas.{rows_are_fields}
use Rattle.ts_table_rows.proofs.SizeLemmas.{SpelledBits}
use Rattle.ts_table_rows.proofs.BodyLemmas.{all_read}

-- what the layers below ensure of what is written
pub record ReadAgain : Type 0 where
  pub sizes : SpelledBits
  pub rows : (rs : List Row) (values : List Held) (rest : List Bool) → fits rs values ≡ true → ends_last rs ≡ true → (is_open rs ≡ true → rest ≡ []) → read_rows rs (spell_rows rs values ++ rest) ≡ Some (values, rest)
  pub number : (count value : ℕ) (rest : List Bool) → read_number count (bits count value ++ rest) ≡ Some (value % 2 ^ count, rest)
  pub row : (row : List ℕ) (rest : List Bool) → are_bytes row ≡ true → read_bytes (length row) (bits_of row ++ rest) ≡ Some (row, rest)
  pub spelled : (count : ℕ) (row : List ℕ) (from rest : List Bool) → read_bytes count from ≡ Some (row, rest) → (from ≡ bits_of row ++ rest) × (length row ≡ count) × (are_bytes row ≡ true)
  pub loop : (ds : List TaggedBody) → descriptors_of (loop_bytes ds) ≡ Ok ds

-- ---- bits as bytes

-- whole bytes that are made of bits have these bits
pub bytes-again : ReadAgain → (bs : List Bool) → length bs % 8 ≡ 0 → (bits_of (bytes_of bs) ≡ bs) × (are_bytes (bytes_of bs) ≡ true)
unfolding bytes_of
bytes-again laws bs whole =
    let read = all_read (length bs / 8) bs (omega arith) in
    let row : List ℕ = read.0.0 in
    let rest : List Bool = read.0.1 in
    let spelled = laws.spelled (length bs / 8) row bs rest read.1 in
    let none : length rest ≡ 0 = omega (arith, ap length spelled.0, length-append (bits_of row) rest, laws.sizes.long row, read.2) in
    let same : read_row (read_bytes (length bs / 8) bs) ≡ row = ap read_row read.1 in (
      ap bits_of same ∙ sym (append-nil (bits_of row)) ∙ sym (ap (λ l. bits_of row ++ l) (nil_from_length rest none)) ∙ sym spelled.0,
      ap are_bytes same ∙ spelled.2,
    )

pub bits_of-append : (a b : List ℕ) → bits_of (a ++ b) ≡ bits_of a ++ bits_of b
bits_of-append a b = flat_map-append (bits 8) a b

-- bytes one after another
pub bytes-append : (a b : List ℕ) → are_bytes a ≡ true → are_bytes b ≡ true → are_bytes (a ++ b) ≡ true
bytes-append [] b one two = two
bytes-append (x ∷ a) b one two =
    let parts = and_parts (nat_lt x 256) (are_bytes a) one in
    and_from (nat_lt x 256) (are_bytes (a ++ b)) parts.0 (bytes-append a b parts.1 two)

pub bytes-all : (row : List ℕ) → All (λ x. x < 256) row → are_bytes row ≡ true
bytes-all [] all = refl
bytes-all (x ∷ row) all =
    and_from (nat_lt x 256) (are_bytes row) (lt-ltb x 256 (All-head (λ y. y < 256) x row all)) (bytes-all row (All-tail (λ y. y < 256) x row all))

-- the bytes of descriptors
pub loop-bytes : (ds : List TaggedBody) → All (λ d. IsDescriptor d) ds → are_bytes (loop_bytes ds) ≡ true
loop-bytes [] all = refl
loop-bytes (d ∷ ds) all =
    let here : IsDescriptor d = All-head (λ x. IsDescriptor x) d ds all in
    let room : length d.body < 256 = omega (arith, here.room) in
    let tag : d.tag < 256 = here.tag in
    and_from (nat_lt d.tag 256) _ (lt-ltb d.tag 256 tag)
    (and_from (nat_lt (length d.body) 256) _ (lt-ltb (length d.body) 256 room)
    (bytes-append d.body (loop_bytes ds) (bytes-all d.body here.bytes) (loop-bytes ds (All-tail (λ x. IsDescriptor x) d ds all))))

-- ---- bytes up to the end

pub rest-again : ReadAgain → (row : List ℕ) → are_bytes row ≡ true → read_rest (bits_of row) ≡ Some (row, [])
unfolding read_rest
rest-again laws row small =
    let count : length (bits_of row) / 8 ≡ length row = omega (arith, laws.sizes.long row) in
    let read : read_bytes (length row) (bits_of row) ≡ Some (row, []) = ap (read_bytes (length row)) (sym (append-nil (bits_of row))) ∙ laws.row row [] small in
    rw (count, read) refl

-- ---- fields

closed-ends : (rs : List Row) → is_open rs ≡ false → ends_last rs ≡ true
closed-ends [] closed = refl
closed-ends (r ∷ rs) closed = by_kind (goes_to_end r.kind) (is_open rs) closed (closed-ends rs)
  where
    by_kind : (here later : Bool) → (here || later) ≡ false → (later ≡ false → ends_last rs ≡ true) → (if here then is_nil rs else ends_last rs) ≡ true
    by_kind true later closed ends = cc
    by_kind false later closed ends = ends closed

not_open : (rs : List Row) → closed_rows rs ≡ true → is_open rs ≡ false
not_open rs closed = from_not (is_open rs) (and_parts (are_sound rs) (not (is_open rs)) closed).1
  where
    from_not : (b : Bool) → not b ≡ true → b ≡ false
    from_not true is = cc
    from_not false is = refl

-- fields that are written are read again
pub fields-again : ReadAgain → (rule : TableRule) (behind : ℕ) (rs : List Row) (values : List Held) (rest : List Bool) → closed_rows rs ≡ true → fits rs values ≡ true → read_fields rule behind rs (spell_rows rs values ++ rest) ≡ Ok (values, rest)
fields-again laws rule behind rs values rest closed fit =
    let none : is_open rs ≡ false = not_open rs closed in
    rows_are_fields rule behind rs (spell_rows rs values ++ rest) (values, rest)
    (laws.rows rs values rest fit (closed-ends rs none) (λ goes. absurd (false≢true (sym none ∙ goes))))
