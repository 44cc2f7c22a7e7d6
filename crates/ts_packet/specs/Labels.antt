-- Labels of a packet: a set of numbers below 32. This project's own rule.
-- The set is given as one number, whose binary digit n is 1 where n is a label.
use Rattle.std.specs.Prelude.{ℕ, zero, suc, ◌^◌, ◌==◌, Bool, not, if◌then◌else◌}
use Rattle.std.specs.Int.{bit_at}
use Rattle.std.specs.Int.Bits.{bit_and}
use Rattle.std.specs.Int.RustNames.{bit_or}

-- the empty set
abbrev pub no_labels : ℕ
no_labels = 0

-- the number is a label of the set
abbrev pub has_label : ℕ → ℕ → Bool
has_label labels n = bit_at labels n == 1

-- the union of two sets
abbrev pub joined : ℕ → ℕ → ℕ
joined a b = bit_or a b

-- the set with one label added
abbrev pub with_label : ℕ → ℕ → ℕ
with_label labels n = joined labels (2 ^ n)

-- some number is a label of both sets
abbrev pub shares_label : ℕ → ℕ → Bool
shares_label a b = not (bit_and a b == 0)

-- the set of the numbers below `count` that the test takes
abbrev pub labels_below : (ℕ → Bool) → ℕ → ℕ
labels_below picked zero = no_labels
labels_below picked (suc n) =
    if picked n then with_label (labels_below picked n) n else labels_below picked n
