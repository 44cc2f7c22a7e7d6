-- Which PIDs an option `--pid`, with or without `--negate`, selects. This project's own rule.
use Rattle.std.specs.Prelude.{ℕ, List, length, Bool, true, not, ◌==◌, if◌then◌else◌}
use Rattle.plugin_options.specs.NumberSet.{has_number}

-- all PIDs where none is listed; else those that are listed, or with `negate` those that are not
abbrev pub is_selected : List (ℕ × ℕ) → Bool → ℕ → Bool
is_selected listed negate pid =
    if length listed == 0 then true else (if negate then not (has_number listed pid) else has_number listed pid)
