-- A plugin that is given a mark between two turns, or of which lines are taken away. This project's own rule.
use Rattle.std.specs.Prelude.{◌≡◌, ◌≤◌, ℕ, length, Option}
use Rattle.chain_core.specs.declared.stage_end.StageEnd.{StageEnd}
use Rattle.stage_run.specs.Seeing.{Seeing}
use Rattle.stage_run.specs.declared.stage_part.StagePart.{StagePart}
use Rattle.stage_run.specs.PartLists.{PartLists}
use Rattle.stage_run.specs.PartStands.{PartStands, MayWantMemory, kind_of, rule_of, preallocated_of, a_plugin}

-- a part that may be given this mark
pub record AllowsNote (stands : PartLists → Option StageEnd → Type 0) (written : ℕ) : Type 0 where
  pub lists : PartLists
  pub told : Option StageEnd
  pub holds : stands lists told
  pub not_below : lists.mark ≤ written
  pub met : written ≤ length lists.met

-- whatever lists the stage of a plugin stood for, it stands for them with this change, where they allow it
pub record Noted {S K P : Type 0} (see : Seeing S K P) (old new : StagePart S K P) (change : PartLists → PartLists)
    (Allows : PartLists → Type 0) : Type 0 where
  pub kind : kind_of new ≡ a_plugin
  pub same_rule : rule_of see new ≡ rule_of see old
  pub same_preallocated : preallocated_of see new ≡ preallocated_of see old
  pub memory : (ahead : ℕ) → MayWantMemory see old ahead → MayWantMemory see new ahead
  pub stands : (lists : PartLists) (told : Option StageEnd) → Allows lists → PartStands see old lists told
      → PartStands see new (change lists) told
