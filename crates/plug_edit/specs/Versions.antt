-- The version of an edited table.
-- ISO/IEC 13818-1, 2.4.4.5, and ETSI EN 300 468, 5.2: version_number has five bits, and after 31 comes 0. Which version
-- an edit gives is this project's own rule.
use Rattle.std.specs.Prelude.{ℕ, ◌+◌, ◌%◌, ◌<◌, Bool, true, false, Option, Some, None, not, ◌&&◌, is_some}
use Rattle.std.specs.Option.{ForSome}

-- the version that is given, or else the table's own, incremented if that is asked for
abbrev pub edited_version : Option ℕ → Bool → ℕ → ℕ
edited_version (Some given) increment version = given
edited_version None true version = (version + 1) % 32
edited_version None false version = version

-- a version is given, or the version is incremented, and not both
abbrev pub versions_agree : Option ℕ → Bool → Bool
versions_agree given increment = not (is_some given && increment)

-- a version that is given has five bits
abbrev pub IsVersion : Option ℕ → Type 0
IsVersion given = ForSome given (λ version. version < 32)
