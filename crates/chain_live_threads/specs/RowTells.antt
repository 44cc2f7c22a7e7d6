-- The stages after the input, and what they told so far. This project's own rule.
use Rattle.std.specs.Prelude.{◌≡◌, ℕ, zero, suc, ◌+◌, ◌<◌, ◌≤◌, List, [], ◌∷◌, length, map}
use Rattle.cell_land.specs.declared.cell_window.Bases.{Bases}
use Rattle.ts_packet.specs.declared.cell.Cell.{Cell}
use Rattle.atomic_table.specs.Seated.{TableId}
use Rattle.chain_model.specs.Each.{Each}
use Rattle.chain_model.specs.Reports.{NamedRule, rules_of}
use Rattle.chain_core.specs.Machine.{Visit}
use Rattle.chain_core.specs.ChainRun.{state_after}
use Rattle.stage_run.specs.Seeing.{Seeing}
use Rattle.chain_live.specs.LiveReports.{lines_to}
use Rattle.chain_rounds.specs.Round.{AreNames}
use Rattle.chain_rounds.specs.Told.{shown}
use Rattle.chain_rounds.specs.declared.told_line.ToldLine.{ToldLine}
use Rattle.chain_run.specs.Runs.{RunStart, told_to}
use Rattle.chain_tells.specs.Taking.{met_in}
use Rattle.chain_tells.specs.Live.{lines_of_rows, HeardRows}
use Rattle.window_ring.specs.Seats.{seen_of}
use Rattle.chain_threads.specs.Standing.{written_by}
use Rattle.chain_live_threads.specs.declared.live_stage.LiveStage.{LiveStage}
use Rattle.chain_live_threads.specs.Serving.{Serves}

-- the stages have these numbers
abbrev pub AreNumbered : {S K P : Type 0} → ℕ → List (LiveStage S K P) → Type 0
AreNumbered k [] = Unit {0}
AreNumbered k (stage ∷ row) = (stage.seat.stage ≡ k) × AreNumbered (suc k) row

-- what the stage after `j` others of a row has seen
abbrev pub seen_in_row : {S K P : Type 0} → List (LiveStage S K P) → ℕ → List Visit
seen_in_row [] j = []
seen_in_row (stage ∷ row) zero = seen_of stage.seat
seen_in_row (stage ∷ row) (suc j) = seen_in_row row j

module _ {S K P : Type 0} (see : Seeing S K P) (begun : RunStart S K) where
  -- what the plugin after `j` others met, by what its own stage has seen
  abbrev pub met_by : List (LiveStage S K P) → ℕ → List Cell
  met_by row j = met_in (state_after begun.plan (seen_in_row row j)) j

  module _ (base : Bases) (table : TableId) (plugins : List NamedRule) (name_of : ℕ → List ℕ) where
    -- the stages after the input serve, and told all lines at the positions below `w`, which each plugin's stage knows as written,
    -- and no others; the lines of each plugin were taken away up to there
    pub record RowTells (w : ℕ) (told : List ToldLine) (row : List (LiveStage S K P)) : Type 0 where
      pub rules : begun.rules ≡ rules_of plugins
      pub names : AreNames name_of 0 plugins
      pub numbers : AreNumbered 1 row
      pub many : length row ≡ begun.plan.plugins + 1
      pub serve : Each (Serves see (told_to begun (λ _. w)) base table) row
      pub none : begun.plan.plugins ≡ 0 → w ≡ 0
      pub within : (j : ℕ) → j < begun.plan.plugins → w ≤ written_by see begun (seen_in_row row j)
      pub lines : map (shown name_of) told ≡ lines_to (met_by row) plugins w

    -- the same, and the listener heard them
    pub record RowHasTold {L : Type 0} (hears : L → L → List ToldLine → Type 0) (first now : L) (w : ℕ)
        (row : List (LiveStage S K P)) : Type 0 where
      pub rows : List (List ToldLine)
      pub heard : HeardRows hears first now rows
      pub tells : RowTells w (lines_of_rows rows) row
