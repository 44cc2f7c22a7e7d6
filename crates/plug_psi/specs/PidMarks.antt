-- For each PID, whether a PAT names it.
-- This project's own rule.
use Rattle.std.specs.Prelude.{◌≡◌, ℕ, Bool, false, List, Option, slice_index_or}
use Rattle.ts_table_rows.specs.TableValues.{TableHolding}
use Rattle.plug_psi.specs.InForce.{names}

-- the flag of each PID says whether a service of the PAT has it
abbrev pub IsMarked : List Bool → Option TableHolding → Type 0
IsMarked marks pat = (pid : ℕ) → slice_index_or marks pid false ≡ names pat pid
