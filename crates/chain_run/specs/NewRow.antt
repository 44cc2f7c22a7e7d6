-- The stages of a chain of which nothing was done. This project's own rule.
use Rattle.std.specs.Prelude.{◌≡◌, ℕ, suc, ◌+◌, ◌≤◌, List, [], length, slice_index_or, None}
use Rattle.chain_model.specs.Apply.{StageList}
use Rattle.stage_run.specs.Seeing.{Seeing}
use Rattle.stage_run.specs.declared.stage_part.StagePart.{StagePart}
use Rattle.stage_run.specs.PartLists.{PartLists}
use Rattle.chain_run.specs.Runs.{RunStart}
use Rattle.chain_run.specs.OneStage.{Doing}
use Rattle.chain_run.specs.Ran.{IsValidRun}

-- each stage has given, reported and taken nothing, by lists that a stage may begin with; `part` is each stage
pub record IsNewRow {S K P : Type 0} (see : Seeing S K P) (begun : RunStart S K)
    (parts : List (StagePart S K P)) : Type 0 where
  pub run : IsValidRun begun
  pub stages_are : length parts ≡ begun.plan.plugins + 2
  pub part : ℕ → StagePart S K P
  pub parts_are : (k : ℕ) (d : StagePart S K P) → k ≤ suc begun.plan.plugins
      → slice_index_or parts k d ≡ part k
  pub lists : ℕ → PartLists
  pub new : (k : ℕ) → k ≤ suc begun.plan.plugins
      → Doing see begun (part k) k (lists k) [] None 0 0 (λ _. []) (λ (_ : StageList). Unit {0})
