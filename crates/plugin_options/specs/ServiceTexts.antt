-- Services as words write them.
-- ISO/IEC 13818-1, 2.4.4.5: a program_number has 16 bits, and 0 is not that of a service. This project's own rule: a service
-- is given by its number, or, where the word is no number, by its name, which is not empty.
use Rattle.std.specs.Prelude.{ℕ, ◌==◌, Bool, List, is_some, length, not, if◌then◌else◌}
use Rattle.plugin_options.specs.Number.{number_of, number_within}
use Rattle.plugin_options.specs.declared.limits.TheConstants.{LAST_SERVICE}

-- whether a text says which service is meant
abbrev pub is_service : List ℕ → Bool
is_service text = if is_some (number_of text) then is_some (number_within 1 LAST_SERVICE text) else not (length text == 0)
