-- Lines that are taken away from the plugins of a row of stages. This project's own rule.
use Rattle.std.specs.Prelude.{◌≡◌, ℕ, ◌+◌, ◌<◌, ◌≤◌, List, length, drop, slice_index_or}
use Rattle.cell_land.specs.declared.cell_window.Bases.{Bases}
use Rattle.atomic_table.specs.Seated.{TableId}
use Rattle.chain_model.specs.Each.{Each}
use Rattle.stage_run.specs.Seeing.{Seeing}
use Rattle.chain_rounds.specs.Told.{told_merged}
use Rattle.chain_rounds.specs.declared.told_line.ToldLine.{ToldLine}
use Rattle.chain_run.specs.Runs.{RunStart, told_to}
use Rattle.chain_live_threads.specs.declared.live_stage.LiveStage.{LiveStage}
use Rattle.chain_live_threads.specs.Serving.{Serves}
use Rattle.chain_live_threads.specs.RowTells.{AreNumbered, met_by}

-- the stages from this one on know so many cells as written; the last one of the row is not asked
abbrev pub AllKnow : {S K P : Type 0} → List (LiveStage S K P) → ℕ → ℕ → Type 0
AllKnow row j written = (i : ℕ) (d : LiveStage _ _ _) → j ≤ i → i + 1 < length row
    → (slice_index_or row i d).written ≡ written

module _ {S K P : Type 0} (see : Seeing S K P) (begun : RunStart S K) (base : Bases) (table : TableId) where
  -- the stages after the input serve
  pub record RowServes (row : List (LiveStage S K P)) : Type 0 where
    pub numbers : AreNumbered 1 row
    pub many : length row ≡ begun.plan.plugins + 1
    pub rules_are : length begun.rules ≡ begun.plan.plugins
    pub serve : Each (Serves see begun base table) row

  -- of the plugins from the one after `j` others on these lines were taken away, up to what their stages know as written
  pub record RowGave (j : ℕ) (lines : List ToldLine) (row row_new : List (LiveStage S K P)) : Type 0 where
    pub serves : (told : ℕ → ℕ) (written : ℕ) → AllKnow row j written → ((i : ℕ) → i < j → told i ≡ begun.told i)
        → ((i : ℕ) → j ≤ i → i < begun.plan.plugins → told i ≡ written)
        → Each (Serves see (told_to begun told) base table) row_new
    pub lines_are : (from written : ℕ) → from ≤ written → AllKnow row j written
        → ((i : ℕ) → j ≤ i → i < begun.plan.plugins → begun.told i ≡ from)
        → lines ≡ told_merged (met_by see begun row) from written j (drop j begun.rules)
