-- When the contents of a PID stand for the packets that were taken.
-- This project's own rule.
use Rattle.std.specs.Prelude.{◌≡◌, ℕ, List}
use Rattle.ts_demux.specs.TablesOn.{tables_on}
use Rattle.plug_psi.specs.Contents.{entries_of}
use Rattle.plug_psi.specs.declared.contents.Contents.{Contents}

-- the tables that are kept are the last of those that the packets complete
abbrev pub HasContents : Contents → ℕ → List (List ℕ) → Type 0
HasContents contents pid taken = contents.tables.entries ≡ entries_of (tables_on pid taken)
