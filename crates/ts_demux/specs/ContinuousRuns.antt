-- The runs of parts in which nothing is missing.
-- ISO/IEC 13818-1, 2.4.3.3: continuity_counter goes up by one with each packet of its PID, modulo 16.
use Rattle.std.specs.Prelude.{ℕ, ◌+◌, ◌%◌, ◌==◌, Bool, false, not, ◌&&◌, List, [], ◌∷◌, if◌then◌else◌}
use Rattle.ts_demux.specs.Part.{Part, is_invalid}

-- the first part of a list is valid and has the counter that follows
abbrev pub goes_on : ℕ → List Part → Bool
goes_on counter [] = false
goes_on counter (p ∷ ps) = not (is_invalid p) && (p.counter == (counter + 1) % 16)

-- a part before the first of some runs
abbrev pub with_first : Part → List (List Part) → List (List Part)
with_first p [] = (p ∷ []) ∷ []
with_first p (run ∷ runs) = (p ∷ run) ∷ runs

-- A new run begins where the counter does not go on, and after an invalid part, which belongs to none.
abbrev pub continuous_runs : List Part → List (List Part)
continuous_runs [] = []
continuous_runs (p ∷ ps) =
    let runs = continuous_runs ps in
    if is_invalid p then runs else (if goes_on p.counter ps then with_first p runs else (p ∷ []) ∷ runs)
