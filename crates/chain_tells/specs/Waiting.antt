-- Lines that were taken away from the plugins of a chain and wait to be told: a row for each plugin. This project's own rule.
use Rattle.std.specs.Prelude.{◌≡◌, ◌<◌, ◌≤◌, ℕ, suc, List, [], ◌∷◌, map, drop, length, slice_index_or, slice_set, nat_lt, not, Bool, true, Option, None, Some}
use Rattle.plugin_trait.specs.declared.line.Line.{Line}
use Rattle.chain_rounds.specs.Merged.{merged}
use Rattle.chain_rounds.specs.Told.{told_by, place_of}
use Rattle.chain_rounds.specs.declared.told_line.ToldLine.{ToldLine}
use Rattle.chain_tells.specs.declared.line_row.LineRow.{LineRow}
use Rattle.chain_tells.specs.declared.waiting_lines.NextRow.{NextRow}
use Rattle.chain_tells.specs.declared.waiting_lines.WaitingLines.{WaitingLines}

-- the rows of plugins as one row, in the order of positions and then of the plugins; the first plugin comes after `j` others
abbrev pub told_rows : ℕ → List LineRow → List ToldLine
told_rows j [] = []
told_rows j (row ∷ rows) = merged place_of (map (told_by (suc j)) row.lines.items) (told_rows (suc j) rows)

-- of the rows from row `j` on, row `i` begins with the next line, which is at this position
pub record IsNextRow (rows : List LineRow) (j i at : ℕ) : Type 0 where
  pub not_below : j ≤ i
  pub within : i < length rows
  pub line : Line
  pub later : List Line
  pub at_is : at ≡ line.at
  pub front : (d : LineRow) → (slice_index_or rows i d).lines.items ≡ line ∷ later
  pub rest : List ToldLine
  pub begins : told_rows j (drop j rows) ≡ told_by (suc i) line ∷ rest
  -- without this line the others are left
  pub left : (row : LineRow) → row.lines.items ≡ later → told_rows j (drop j (slice_set rows i row)) ≡ rest

-- a line at this position comes before the next one of later rows
abbrev pub comes_first_of : ℕ → Option NextRow → Bool
comes_first_of at (Some next) = not (nat_lt next.at at)
comes_first_of at None = true

-- all lines that wait, in the order in which they are told
abbrev pub waiting : WaitingLines → List ToldLine
waiting lines = told_rows 0 lines.rows.items
