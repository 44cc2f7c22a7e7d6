-- Windows of one block of values. This project's own rule.
use Rattle.std.specs.Prelude.{◌≡◌, refl, ℕ, List, ◌++◌, length, take, drop, Option, None, Some, nat_lt, ◌==◌, ◌&&◌, Bool}
use Rattle.std.specs.Coded.{Coded, code_by, coded×, coded_list, coded_ℕ}
use denote.RawPtr.{Ptr, coded_ptr}
use Rattle.ts_land.specs.Ownership.{Extent}

-- the identity of a block: where it begins, and how many slots it has
pub record Land : Type 0 where
  pub base : Ptr
  pub count : ℕ

-- a window of a block: its values, the first of which is in the slot `start`
pub record Piece (X : Type 0) : Type 0 where
  pub land : Land
  pub start : ℕ
  pub cells : List X

-- the window of this block, from this slot on, with these values
abbrev pub piece_of : {X : Type 0} → Land → ℕ → List X → Piece X
piece_of land start cells = record { land = land; start = start; cells = cells }

-- it is stored as the tuple of its fields
abbrev pub piece_code : {X : Type 0} → Coded X → Coded (Piece X)
piece_code {X} c =
    code_by ((Ptr × ℕ) × (ℕ × List X)) (coded× (coded× coded_ptr coded_ℕ) (coded× coded_ℕ (coded_list c)))
    (λ w. ((w.land.base, w.land.count), (w.start, w.cells)))
    (λ p. piece_of (record { base = p.0.0; count = p.0.1 }) p.1.0 p.1.1) (λ _. refl)

-- the window after these values were written over its own
abbrev pub with_cells : {X : Type 0} → Piece X → List X → Piece X
with_cells w xs = piece_of w.land w.start (take (length w.cells) (xs ++ drop (length xs) w.cells))

-- a window has the block's first value; it then has the block's owner too
abbrev pub has_first : ℕ → ℕ → Bool
has_first start len = start == 0 && nat_lt 0 len

-- the owner, if there is one, is that of this block
abbrev pub IsOwnerOf : Ptr → ℕ → Option Extent → Type 0
IsOwnerOf base count None = Unit {0}
IsOwnerOf base count (Some e) = (e.ptr ≡ base) × (e.len ≡ count)
