-- The sections to come after a remembered part.
use Rattle.std.proofs.Common.{◌≡◌, ℕ, Bool, true, false, ◌==◌, nat_le, List, suc, ◌∷◌, ◌++◌, length, Some, refl, ap, arith, inl, inr}
use Rattle.std.specs.List.{flat_map}
use Rattle.std.proofs.lemmas.Bool.Decides.{leb_tells}
use Rattle.ts_demux.proofs.Choice.{if_true, if_false}
use Rattle.ts_demux.proofs.Runs.{all_stretches, following, all_stretches-plain, all_stretches-unit}
use Rattle.ts_demux.specs.Part.{Part, is_invalid, without_repeats}
use Rattle.monitor_crcs.specs.WrongCrcs.{told_in, told_of_parts}
use Rattle.monitor_crcs.specs.Reader.{part_of, told_after}

-- the sections of a list of parts without repeats
abbrev pub told_left : List Part → List ℕ
told_left ps = flat_map told_in (all_stretches ps)

longer_than_none : (n : ℕ) → nat_le (suc n) 0 ≡ false
longer_than_none n = elim (leb_tells (suc n) 0) as (λ _. nat_le (suc n) 0 ≡ false) [ inl h ↦ absurd (omega (arith, h.1)) | inr h ↦ h.0 ]

remembered_is_valid : (is_open : Bool) (bytes : List ℕ) (counter : ℕ) → is_invalid (part_of is_open bytes counter) ≡ false
remembered_is_valid true bytes counter = longer_than_none (length bytes)
remembered_is_valid false bytes counter = refl

-- after a remembered part its stretch goes on with what follows
pub told_left-remembered :
    (is_open : Bool) (bytes : List ℕ) (counter : ℕ) (ps : List Part) →
    told_left (part_of is_open bytes counter ∷ ps)
    ≡ told_after is_open bytes (following counter ps) ++ told_left ps
told_left-remembered true bytes counter ps =
    ap (flat_map told_in) (all_stretches-unit (part_of true bytes counter) ps (remembered_is_valid true bytes counter) refl (omega arith))
told_left-remembered false bytes counter ps =
    ap (flat_map told_in) (all_stretches-plain (part_of false bytes counter) ps (remembered_is_valid false bytes counter) refl)

-- the parts after one with this counter that do not repeat
abbrev pub others_after : ℕ → List Part → List Part
others_after counter ps = without_repeats (Some counter) ps

-- what is to come after a remembered part
pub told-remembered :
    (is_open : Bool) (bytes : List ℕ) (counter : ℕ) (ps : List Part) →
    told_of_parts (part_of is_open bytes counter ∷ ps)
    ≡ told_after is_open bytes (following counter (others_after counter ps)) ++ told_left (others_after counter ps)
unfolding told_of_parts
told-remembered true bytes counter ps = told_left-remembered true bytes counter (others_after counter ps)
told-remembered false bytes counter ps = told_left-remembered false bytes counter (others_after counter ps)

pub told-first : (p : Part) (ps : List Part) → told_of_parts (p ∷ ps) ≡ told_left (p ∷ others_after p.counter ps)
unfolding told_of_parts
told-first p ps = refl

pub others-repeat : (p : Part) (ps : List Part) (counter : ℕ) → (counter == p.counter) ≡ true → others_after counter (p ∷ ps) ≡ others_after p.counter ps
others-repeat p ps counter e = if_true (counter == p.counter) (others_after p.counter ps) (p ∷ others_after p.counter ps) e

pub others-next : (p : Part) (ps : List Part) (counter : ℕ) → (counter == p.counter) ≡ false → others_after counter (p ∷ ps) ≡ p ∷ others_after p.counter ps
others-next p ps counter e = if_false (counter == p.counter) (others_after p.counter ps) (p ∷ others_after p.counter ps) e
