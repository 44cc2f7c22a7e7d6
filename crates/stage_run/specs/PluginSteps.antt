-- What the steps of a plugin's stage do to what it stands for. This project's own rule.
use Rattle.std.specs.Prelude.{◌≡◌, ℕ, ◌≤◌, List, length, Option, Some}
use Rattle.ts_packet.specs.declared.cell.Cell.{Cell}
use Rattle.plugin_trait.specs.declared.list_end.ListEnd.{ListEnd}
use Rattle.plugin_trait.specs.declared.list_end.ListEnd.TheVariants.{Through}
use Rattle.plugin_trait.specs.declared.list_end.ListEnd.TheVariants as left
use Rattle.chain_core.specs.declared.news.News.{News}
use Rattle.chain_core.specs.declared.stage_end.StageEnd.{StageEnd}
use Rattle.chain_core.specs.declared.stage_end.StageEnd.TheVariants.{Last, Stop, Refuse, NoMemory}
use Rattle.stage_run.specs.Telling.{followed}

-- what is reported of how a plugin left its window
abbrev pub told_by : ListEnd → News → ℕ → Option StageEnd
told_by Through news now = followed news now
told_by left.Last news now = Some Last
told_by left.Stop news now = Some Stop
told_by (left.Refuse reason) news now = Some (Refuse reason)
told_by left.NoMemory news now = Some NoMemory

-- a plugin that stands for these cells, so many, may be given this mark
pub record Allows (stands : List Cell → ℕ → Type 0) (at written : ℕ) (history : List Cell)
    (mark : ℕ) : Type 0 where
  pub holds : stands history mark
  pub count : length history ≡ at
  pub not_below : mark ≤ written
  pub within : written ≤ at

-- a plugin that stands for some such cells
pub record MayPass (stands : List Cell → ℕ → Type 0) (at written : ℕ) : Type 0 where
  pub history : List Cell
  pub mark : ℕ
  pub allows : Allows stands at written history mark

-- the plugin stands for these cells; it was given this mark, unless memory ran out, and no greater one
pub record StandsTold (stands : List Cell → ℕ → Type 0) (history : List Cell) (written : ℕ)
    (end : ListEnd) : Type 0 where
  pub mark : ℕ
  pub holds : stands history mark
  pub below : mark ≤ written
  pub told : (end ≡ left.NoMemory → ⊥) → mark ≡ written
