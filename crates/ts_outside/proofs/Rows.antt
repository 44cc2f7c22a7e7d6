-- Rows that the definitions compute.
use Rattle.std.proofs.Common.{◌≡◌, ℕ, List, [], ◌∷◌, None, Some, true, false, refl}
use Rattle.ts_outside.specs.Count.{raised}
use Rattle.ts_outside.specs.Source.{own_bytes}
use Rattle.ts_outside.specs.Told.{before, grown, told_length}
use Rattle.ts_outside.specs.Desk.{file_of, stream_name, with_input, with_output}
use Rattle.ts_outside.specs.Memory.{fails_next, read_count}

-- a count rises by one, and saturates
counts : (raised 0 ≡ 1) × (raised 18446744073709551614 ≡ 18446744073709551615) × (raised 18446744073709551615 ≡ 18446744073709551615)
counts = (refl, refl, refl)

-- a known list grows at its end, and an unknown one stays so
told : (grown {T = ℕ} (Some (1 ∷ [])) (2 ∷ []) ≡ Some (1 ∷ 2 ∷ [])) × (grown {T = ℕ} None (2 ∷ []) ≡ None) × (before {T = ℕ} (1 ∷ []) (Some (2 ∷ [])) ≡ Some (1 ∷ 2 ∷ []))
told = (refl, refl, refl)

-- a list that is known has its length, and of one that is not no member is
lengths : (told_length {T = ℕ} (Some (7 ∷ 8 ∷ [])) ≡ 2) × (told_length {T = ℕ} None ≡ 0)
lengths = (refl, refl)

-- the name 97 stands twice: its first pair counts, and the unknown name 99 has no bytes
files : List (List ℕ × List ℕ)
files = (97 ∷ [], 1 ∷ []) ∷ (98 ∷ [], 2 ∷ []) ∷ (97 ∷ [], 3 ∷ []) ∷ []

names : (file_of files (97 ∷ []) ≡ 1 ∷ []) × (file_of files (98 ∷ []) ≡ 2 ∷ []) × (file_of files (99 ∷ []) ≡ []) × (stream_name None ≡ [])
unfolding files
names = (refl, refl, refl, refl)

-- a source that failed and had two bytes to come, and an output, closed where all is known and where it is not
closings : (with_input (Some []) (record { left = Some (5 ∷ 6 ∷ []); faults = 1; origin = own_bytes }) ≡ Some (record { left = 2; failed = true } ∷ [])) × (with_input (Some []) (record { left = None; faults = 0; origin = own_bytes }) ≡ None) × (with_output (Some []) (record { taken = Some (5 ∷ []); name = Some (97 ∷ []); faults = 0 }) ≡ Some ((97 ∷ [], 5 ∷ []) ∷ []))
closings = (refl, refl, refl)

-- the second call fails where 2 is in the list; a read of four places moves a piece of three, or what is left
plans : (fails_next (2 ∷ []) 0 ≡ false) × (fails_next (2 ∷ []) 1 ≡ true) × (read_count (record { left = 1 ∷ 2 ∷ 3 ∷ 4 ∷ 5 ∷ []; faults = 0; calls = 0; failing = []; piece = 3 }) 4 ≡ 3)
plans = (refl, refl, refl)
