-- Lists of numbers below 256 are bytes.
use Rattle.std.proofs.Common.{◌≡◌, ℕ, suc, ◌<◌, List, [], ◌∷◌, true, refl, get_or}
use Rattle.std.specs.Prelude.{All}
use Rattle.std.proofs.lemmas.Bool.{lt-ltb}
use Rattle.std.proofs.lemmas.List.Elements.{All-head, All-tail}
use Rattle.ts_fields.specs.Fitting.{are_bytes}

-- each from its number
pub bytes_by_index : (row : List ℕ) → ((i : ℕ) → get_or row i 0 < 256) → are_bytes row ≡ true
bytes_by_index [] small = refl
bytes_by_index (x ∷ row) small = rw (lt-ltb x 256 (small 0)) (bytes_by_index row (λ i. small (suc i)))

-- all at once
pub all_bytes : (row : List ℕ) → All (λ x. x < 256) row → are_bytes row ≡ true
all_bytes [] all = refl
all_bytes (x ∷ row) all =
    rw (lt-ltb x 256 (All-head (λ y. y < 256) x row all), all_bytes row (All-tail (λ y. y < 256) x row all)) refl
