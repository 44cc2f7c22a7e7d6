-- The sections of a list of parts.
-- ISO/IEC 13818-1, 2.4.3.3 and 2.4.4.1.
use Rattle.std.specs.Prelude.{List, None, filter}
use Rattle.std.specs.List.{flat_map}
use Rattle.ts_section.specs.FirstBroken.{is_section}
use Rattle.ts_demux.specs.Part.{Part, without_repeats}
use Rattle.ts_demux.specs.ContinuousRuns.{continuous_runs}
use Rattle.ts_demux.specs.Stretches.{stretches}
use Rattle.ts_demux.specs.Cut.{cut}
use Rattle.std.specs.Prelude.{ℕ}

-- the pieces of a stretch that are valid sections
unfoldable pub sections_in : List ℕ → List (List ℕ)
sections_in stretch = filter is_section (cut stretch)

-- the sections of a list of parts: duplicates are left out, the rest is cut into runs,
-- each run into stretches, each stretch into pieces, and the valid sections among these count
unfoldable pub sections_of_parts : List Part → List (List ℕ)
sections_of_parts parts =
    flat_map sections_in (flat_map stretches (continuous_runs (without_repeats None parts)))
