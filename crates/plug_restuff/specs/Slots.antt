-- The slots of a stream that gets a lower constant rate. This project's own rule.
use Rattle.std.specs.Prelude.{ℕ, ◌+◌, ◌*◌, ◌/◌, nat_lt, Bool}

-- how many whole packets at the rate `to` there is time for while so many cells at the rate `from` come: the number of slots
-- before the cell of this number, and the number of the slot that this cell is, where it is one
abbrev pub slots_before : ℕ → ℕ → ℕ → ℕ
slots_before from to cell = cell * to / from

-- a cell is a slot where there is time for one packet more at its end than at its beginning
abbrev pub is_slot : ℕ → ℕ → ℕ → Bool
is_slot from to cell = nat_lt (slots_before from to cell) (slots_before from to (cell + 1))
