-- What values that lie next to each other own. This project's own rule.
use Rattle.std.specs.Prelude.{refl, ℕ, ◌*◌, ◌^◌, List, length}
use Rattle.std.specs.Coded.{Coded, code_by, coded×, coded_ℕ}
use base.Fraction.{full_share}
use base.Fml.{Fml, fsep, flt}
use denote.RattleType.{RattleType}
use denote.Array.{Array}
use denote.RawPtr.{Ptr, coded_ptr, lies_at}
use Rattle.std.specs.Mem.{type_size}

-- where the values of a block begin, and how many they are
pub record Extent : Type 0 where
  pub ptr : Ptr
  pub len : ℕ

-- it is stored as the pair of its fields
abbrev pub extent_code : Coded Extent
extent_code = code_by (Ptr × ℕ) (coded× coded_ptr coded_ℕ)
    (λ e. (e.ptr, e.len)) (λ p. record { ptr = p.0; len = p.1 }) (λ _. refl)

-- the memory at `p` holds these values, and their size is below 2^63 bytes
abbrev pub span_owns : (R : RattleType) → Ptr → List R.Denot → Fml
span_owns R p xs =
    fsep (flt (length xs * type_size R) (2 ^ 63)) (lies_at (Array R (length xs)) full_share p xs)
