-- Options that editors have in common.
-- This project's own rule.
use Rattle.std.specs.Prelude.{ℕ, List, [], ◌∷◌, Option, codes, unwrap_or}
use Rattle.clap.specs.Walk.{Row}
use Rattle.plugin_options.specs.Forms.{number, numbered, pairs}
use Rattle.plugin_options.specs.Number.{number_within}
use Rattle.plugin_options.specs.Options.{OptionRow, flag, read_value, value}
use Rattle.plugin_options.specs.Pairs.{pairs_of}
use Rattle.plugin_options.specs.Parts.{all_numbered_of, part_of}
use Rattle.plugin_options.specs.Ranges.{ranges_of}
use Rattle.plugin_options.specs.declared.part.Part.{Part}
use Rattle.plug_edit.specs.declared.limits.TheConstants.{LAST_VERSION}

-- the byte `/`, which separates two numbers
abbrev pub slash : ℕ
slash = 47

-- an option with a number from 0 to `most`
abbrev pub number_row : List ℕ → ℕ → OptionRow
number_row name most = record { name = name; kind = value (number 0 most) }

-- an option with pairs of numbers, each with a least and a greatest value
abbrev pub pairs_row : List ℕ → ℕ × ℕ → ℕ × ℕ → OptionRow
pairs_row name first second = record { name = name; kind = value (pairs slash first second) }

-- an option with parts, each behind a number from 0 to `most`
abbrev pub numbered_row : List ℕ → ℕ → Part → OptionRow
numbered_row name most what = record { name = name; kind = value (numbered slash (0, most) what) }

-- the two options of the version
abbrev pub version_rows : List OptionRow
version_rows = number_row (codes "new-version") LAST_VERSION
    ∷ record { name = codes "increment-version"; kind = flag }
    ∷ []

-- the number of an option, from 0 to `most`
abbrev pub number_found : List ℕ → ℕ → List Row → Option ℕ
number_found name most found = read_value (number_within 0 most) name found

-- the pairs of an option; none if it is not given
abbrev pub pairs_found : List ℕ → ℕ × ℕ → ℕ × ℕ → List Row → List (ℕ × ℕ)
pairs_found name first second found = unwrap_or (read_value (pairs_of slash first second) name found) []

-- the numbers and ranges of an option, from 0 to `most`; none if it is not given
abbrev pub ranges_found : List ℕ → ℕ → List Row → List (ℕ × ℕ)
ranges_found name most found = unwrap_or (read_value (ranges_of most) name found) []

-- the bytes of the part of an option; none if it is not given
abbrev pub part_found : List ℕ → Part → List Row → List ℕ
part_found name what found = unwrap_or (read_value (part_of what) name found) []

-- the parts of an option, each behind a number from 0 to `most`; none if it is not given
abbrev pub numbered_found : List ℕ → ℕ → Part → List Row → List (ℕ × List ℕ)
numbered_found name most what found = unwrap_or (read_value (all_numbered_of slash (0, most) what) name found) []
