-- Filling the bodies of sections with descriptors and items as bytes.
-- This project's own rule, that of `TableSections`, stated for the bytes alone.
use Rattle.std.specs.Prelude.{◌≡◌, ℕ, ◌+◌, ◌-◌, ◌<◌, ◌≤◌, List, [], ◌∷◌, ◌++◌, length, map, Bool, true, false, nat_lt, nat_le, if◌then◌else◌, Option, Some, None, Result, Err, All}
use Rattle.ts_bits.specs.TaggedBody.{TaggedBody, descriptor_bytes}
use Rattle.ts_fields.specs.Layout.{Held}
use Rattle.ts_table_rows.specs.declared.filling.ThingRow.{ThingRow}
use Rattle.ts_table_rows.specs.declared.filling.Piece.{Piece}
use Rattle.ts_table_rows.specs.declared.fault.TableRefusal.{TableRefusal}
use Rattle.ts_table_rows.specs.declared.fault.TableRefusal.TheVariants.{TooLarge}
use Rattle.ts_table_rows.specs.TablePages.{ItemPage, TablePage}
use Rattle.ts_table_rows.specs.TableValues.{ItemHolding}
use Rattle.ts_table_rows.specs.BodySpelling.{item_row, bytes_of, spell_parts}
use Rattle.ts_table_rows.specs.TableSections.{Thing, own_thing, item_thing, told_length, plus, above, unless_large}

-- a descriptor of the table itself as bytes
abbrev pub own_row : TaggedBody → Bool × List ℕ
own_row d = (false, descriptor_bytes d)

-- an item as bytes
abbrev pub item_kind_row : Option ItemPage → ItemHolding → Bool × List ℕ
item_kind_row i x = (true, item_row i x)

-- a thing as bytes, and whether it is an item
abbrev pub kind_row : Option ItemPage → Thing → Bool × List ℕ
kind_row i (own_thing d) = own_row d
kind_row i (item_thing x) = item_kind_row i x

abbrev pub thing_view : ThingRow → Bool × List ℕ
thing_view r = (r.is_item, r.bytes.items)

-- the bytes of a piece: those of its descriptors, and those of its items
abbrev pub piece_view : Piece → List ℕ × List ℕ
piece_view p = (p.own.items, p.items.items)

abbrev pub nothing : List ℕ × List ℕ
nothing = ([], [])

-- a piece with one thing more at its end
abbrev pub with_thing : List ℕ × List ℕ → Bool × List ℕ → List ℕ × List ℕ
with_thing hand x = (if x.0 then hand.0 else hand.0 ++ x.1, if x.0 then hand.1 ++ x.1 else hand.1)

-- the pieces; `hand` is the current piece, which takes `used` bytes of the room
unfoldable pub filled : ℕ → ℕ → List ℕ × List ℕ → List (Bool × List ℕ) → List (List ℕ × List ℕ)
filled room used hand [] = hand ∷ []
filled room used hand (x ∷ xs) =
    if nat_le (used + length x.1) room then filled room (used + length x.1) (with_thing hand x) xs
    else hand ∷ filled room (length x.1) (with_thing nothing x) xs

-- the pieces that the next thing completes, the piece that is then current, and the bytes that it takes
abbrev pub step : ℕ → ℕ → List ℕ × List ℕ → Bool × List ℕ
    → List (List ℕ × List ℕ) × (List ℕ × List ℕ) × ℕ
step room used hand x =
    if nat_le (used + length x.1) room then ([], with_thing hand x, used + length x.1)
    else (hand ∷ [], with_thing nothing x, length x.1)

-- a call has made this step
pub record IsStep (old new : List (List ℕ × List ℕ)) (made : List (List ℕ × List ℕ) × (List ℕ × List ℕ) × ℕ)
    (hand : List ℕ × List ℕ) (used : ℕ) : Type 0 where
  pub ended : new ≡ old ++ made.0
  pub in_hand : hand ≡ made.1
  pub takes : used ≡ made.2

-- all things in one piece
unfoldable pub gathered : List ℕ × List ℕ → List (Bool × List ℕ) → List ℕ × List ℕ
gathered hand [] = hand
gathered hand (x ∷ xs) = gathered (with_thing hand x) xs

-- the size of the first row that is larger than the room
unfoldable pub large_row : ℕ → List (Bool × List ℕ) → Option ℕ
large_row room [] = None
large_row room (x ∷ xs) = if nat_lt room (length x.1) then Some (length x.1) else large_row room xs

-- the body with a piece
abbrev pub row_with : TablePage → List Held → List ℕ × List ℕ → List ℕ
row_with p values hand = bytes_of (spell_parts p values hand.0 hand.1)

abbrev pub least_length : TablePage → List Held → ℕ
least_length p values = 9 + length (row_with p values nothing)

-- the bodies of a table with as many sections as it needs
unfoldable pub filled_rows : TablePage → List Held → List (Bool × List ℕ) → Result (List (List ℕ)) TableRefusal
filled_rows p values xs =
    if nat_lt p.most (least_length p values) then Err (TooLarge (told_length (least_length p values)))
    else unless_large (plus (least_length p values) (large_row (p.most - least_length p values) xs))
    (map (row_with p values) (filled (p.most - least_length p values) 0 nothing xs))

-- the body of a table with one section
unfoldable pub single_row : TablePage → List Held → List (Bool × List ℕ) → Result (List (List ℕ)) TableRefusal
single_row p values xs =
    unless_large (above p.most (9 + length (row_with p values (gathered nothing xs)))) (row_with p values (gathered nothing xs) ∷ [])

-- the bodies of a table
abbrev pub rows_by : TablePage → List Held → List (Bool × List ℕ) → Result (List (List ℕ)) TableRefusal
rows_by p values xs = if p.single then single_row p values xs else filled_rows p values xs

-- each body leaves room for the head and the CRC
abbrev pub AreSmall : List (List ℕ) → Type 0
AreSmall rows = All (λ row. length row ≤ 4084) rows

-- the bodies of the sections of a table: small, at least one, and exactly one where the table has one section
pub record AreFilled (p : TablePage) (rows : List (List ℕ)) : Type 0 where
  pub small : AreSmall rows
  pub some : 0 < length rows
  pub one : p.single ≡ true → length rows ≡ 1
