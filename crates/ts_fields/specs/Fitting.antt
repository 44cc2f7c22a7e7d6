-- The values that fields can hold.
-- This project's own rule: a number is below its width's bound, counted texts and data have at most 255 bytes.
use Rattle.std.specs.Prelude.{ℕ, ◌^◌, ◌&&◌, List, [], ◌∷◌, length, drop, slice_get, Bool, true, false, nat_eq, nat_lt, Option, Some, None}
use Rattle.std.specs.List.{list_all}
use Rattle.ts_fields.specs.declared.field.Kind.{Kind}
use Rattle.ts_fields.specs.declared.field.Kind.TheVariants.{Number, Reserved, Zeros, Ones, Free, Flag, Start, Duration, Decimal, Language, CountedText, CountedHex, Text, Hex}
use Rattle.ts_fields.specs.Layout.{Row, Held, number, bytes}
use Rattle.ts_fields.specs.Reading.{are_printable}
use Rattle.ts_fields.specs.Spelling.{holds}
use Rattle.ts_fields.specs.Times.{is_start, is_time}

-- a number that passes a test
abbrev pub number_passes : Option Held → (ℕ → Bool) → Bool
number_passes None test = false
number_passes (Some (number n)) test = test n
number_passes (Some (bytes b)) test = false

-- a number below a bound
abbrev pub number_fits : Option Held → ℕ → Bool
number_fits value bound = number_passes value (λ n. nat_lt n bound)

-- bytes that pass a test
abbrev pub bytes_fit : Option Held → (List ℕ → Bool) → Bool
bytes_fit None test = false
bytes_fit (Some (number n)) test = false
bytes_fit (Some (bytes b)) test = test b

-- numbers below 256
abbrev pub are_bytes : List ℕ → Bool
are_bytes row = list_all (λ byte. nat_lt byte 256) row

-- a value that a field of this kind can hold; reserved bits hold none
abbrev pub field_fits : Kind → Option Held → Bool
field_fits (Number count) value = number_fits value (2 ^ count)
field_fits (Reserved count) value = number_fits value (2 ^ count)
field_fits (Zeros count) value = number_fits value (2 ^ count)
field_fits (Ones count) value = true
field_fits (Free count) value = true
field_fits Flag value = number_fits value 2
field_fits (Decimal digits) value = number_fits value (10 ^ digits)
field_fits Start value = number_passes value (λ n. nat_lt n (2 ^ 40) && is_start n)
field_fits Duration value = number_passes value (λ n. nat_lt n (2 ^ 24) && is_time 99 n)
field_fits Language value = bytes_fit value (λ b. nat_eq (length b) 3 && are_printable b)
field_fits CountedText value = bytes_fit value (λ b. nat_lt (length b) 256 && are_bytes b)
field_fits CountedHex value = bytes_fit value (λ b. nat_lt (length b) 256 && are_bytes b)
field_fits Text value = bytes_fit value are_bytes
field_fits Hex value = bytes_fit value are_bytes

-- exactly one value that it can hold for each of these fields that is not reserved
unfoldable pub fits : List Row → List Held → Bool
fits [] [] = true
fits [] (value ∷ values) = false
fits (r ∷ rs) values = field_fits r.kind (slice_get values 0) && fits rs (drop (holds r.kind) values)

-- the same, whatever the length of counted texts and data
abbrev pub field_fits_uncounted : Kind → Option Held → Bool
field_fits_uncounted CountedText value = bytes_fit value are_bytes
field_fits_uncounted CountedHex value = bytes_fit value are_bytes
field_fits_uncounted kind value = field_fits kind value

unfoldable pub fits_uncounted : List Row → List Held → Bool
fits_uncounted [] [] = true
fits_uncounted [] (value ∷ values) = false
fits_uncounted (r ∷ rs) values =
    field_fits_uncounted r.kind (slice_get values 0) && fits_uncounted rs (drop (holds r.kind) values)

-- a number
abbrev pub is_number : Option Held → Bool
is_number value = number_passes value (λ n. true)

-- a number, where a field of this kind holds a number, whatever its size
abbrev pub field_shaped : Kind → Option Held → Bool
field_shaped (Number count) value = is_number value
field_shaped (Reserved count) value = is_number value
field_shaped (Zeros count) value = is_number value
field_shaped Flag value = is_number value
field_shaped (Decimal digits) value = is_number value
field_shaped Start value = is_number value
field_shaped Duration value = is_number value
field_shaped _ value = true

-- numbers where these fields hold numbers
unfoldable pub shaped : List Row → List Held → Bool
shaped [] values = true
shaped (r ∷ rs) values = field_shaped r.kind (slice_get values 0) && shaped rs (drop (holds r.kind) values)
