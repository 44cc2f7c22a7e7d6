-- Worked rows of PIDs to which no table refers.
use Rattle.std.proofs.Common.{◌≡◌, ℕ, true, false, [], ◌∷◌, map, Some, refl}
use Rattle.plug_clock.specs.declared.stream_clock.StreamClock.{StreamClock}
use Rattle.monitor_keys.specs.declared.span.Span.{Span}
use Rattle.monitor_orphans.specs.Orphans.{is_told_with, orphan_with}
use Rattle.monitor_orphans.specs.declared.orphan.Orphan.TheVariants.{Unmet, Met, Since, Told}

-- the clock with a PCR at a position
abbrev clock : ℕ → ℕ → StreamClock
clock at time = record { pid = Some 256; is_asked = false; last = Some (record { at = at; clock = 0 }); time = time; units = 0; positions = 0 }

-- a PCR at position 20, half a second behind one at 10, and those half a second and more than a second later
abbrev first : Span
first = record { before = clock 10 0; at = 20; after = clock 20 13500000 }

abbrev second : Span
second = record { before = clock 20 13500000; at = 30; after = clock 30 27000000 }

abbrev guessed : Span
guessed = record { before = clock 20 13500000; at = 30; after = clock 30 40500001 }

-- a packet at position 15 came at a quarter of a second; half a second is no error, a unit more is, and it is told once
met_between : map (orphan_with first false false) (Unmet ∷ Met 15 ∷ Told ∷ []) ≡ Unmet ∷ Since 6750000 ∷ Told ∷ []
met_between = refl

told_behind : map (orphan_with second false false) (Since 13500000 ∷ Since 13499999 ∷ Since 6750000 ∷ []) ≡ Since 13500000 ∷ Told ∷ Told ∷ []
told_behind = refl

told_once : map (is_told_with second false false) (Since 13500000 ∷ Since 13499999 ∷ Told ∷ []) ≡ false ∷ true ∷ false ∷ []
told_once = refl

-- a table that refers to the PID, and a time that is a guess
referred : orphan_with second false true Told ≡ Unmet
referred = refl

over_a_guess : orphan_with guessed false false (Since 0) ≡ Since 40500001
over_a_guess = refl
