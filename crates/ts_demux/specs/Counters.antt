-- ISO/IEC 13818-1, 2.4.3.3: the counter that follows another.
use Rattle.std.specs.Prelude.{ℕ, ◌+◌, ◌%◌, ◌==◌, Bool, false, Option, Some, None}

-- whether a counter is the one after the last, if there is a last
abbrev pub goes_on_after : Option ℕ → ℕ → Bool
goes_on_after None counter = false
goes_on_after (Some last) counter = counter == (last + 1) % 16
