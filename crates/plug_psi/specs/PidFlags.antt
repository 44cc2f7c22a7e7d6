-- A flag for each PID.
-- This project's own rule.
use Rattle.std.specs.Prelude.{◌≡◌, ℕ, ◌<◌, Bool, false, List, slice_index_or}
use Rattle.ts_packet.specs.declared.numbers.TheConstants.{PID_COUNT}

-- the flag of each PID has the value that a test has for the PID
abbrev pub AreFlags : List Bool → (ℕ → Bool) → Type 0
AreFlags flags told = (pid : ℕ) → pid < PID_COUNT → slice_index_or flags pid false ≡ told pid
