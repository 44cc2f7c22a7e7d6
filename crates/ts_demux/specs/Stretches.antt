-- The stretches of bytes of one run.
-- ISO/IEC 13818-1, 2.4.4.1 and 2.4.4.2: sections go on from payload to payload, and a pointer_field says where one begins.
use Rattle.std.specs.Prelude.{ℕ, ◌+◌, List, [], ◌∷◌, length, if◌then◌else◌}
use Rattle.std.specs.List.{flat_map, slice_range}
use Rattle.ts_demux.specs.Part.{Part, body_of, pointer_of}

-- the payloads joined without their pointer bytes
abbrev pub joined : List Part → List ℕ
joined run = flat_map body_of run

-- the places in the joined bytes at which the pointers point, where the run begins at place `at`
abbrev pub pointed_places : ℕ → List Part → List ℕ
pointed_places at [] = []
pointed_places at (p ∷ ps) =
    let places = pointed_places (at + length (body_of p)) ps in
    if p.unit_start then (at + pointer_of p) ∷ places else places

-- the first of some places, or the end where there is none
abbrev pub first_or : List ℕ → ℕ → ℕ
first_or [] end = end
first_or (place ∷ places) end = place

-- the bytes from each place to the next, or to the end
abbrev pub ranges : List ℕ → List ℕ → List (List ℕ)
ranges bytes [] = []
ranges bytes (place ∷ places) = slice_range bytes place (first_or places (length bytes)) ∷ ranges bytes places

-- The stretches of a run: its joined bytes from one pointed place to the next, or to the run's end.
-- Bytes before the first pointed place belong to none.
abbrev pub stretches : List Part → List (List ℕ)
stretches run = ranges (joined run) (pointed_places 0 run)
