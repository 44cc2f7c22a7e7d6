-- A chain in one thread, and what it told so far. This project's own rule.
use Rattle.std.specs.Prelude.{◌≡◌, ◌≤◌, ℕ, suc, List, length, map}
use Rattle.ts_packet.specs.declared.cell.Cell.{Cell}
use Rattle.chain_model.specs.Reports.{NamedRule, rules_of}
use Rattle.chain_core.specs.CoreNumbers.{CoreNumbers}
use Rattle.chain_core.specs.ChainRun.{state_after}
use Rattle.stage_run.specs.Seeing.{Seeing}
use Rattle.stage_run.specs.declared.stage_part.StagePart.{StagePart}
use Rattle.chain_live.specs.LiveReports.{lines_to}
use Rattle.chain_rounds.specs.Round.{AreNames}
use Rattle.chain_rounds.specs.Told.{shown}
use Rattle.chain_rounds.specs.declared.told_line.ToldLine.{ToldLine}
use Rattle.chain_run.specs.Runs.{RunStart, told_to}
use Rattle.chain_run.specs.Working.{IsRunning}
use Rattle.chain_tells.specs.Taking.{met_in}

module _ {S K P : Type 0} (see : Seeing S K P) (begun : RunStart S K) where
  -- a chain that runs, and told all lines at the positions below `w`, which the output has given, and no others; the lines of
  -- the plugin after `j` others were taken away up to `taken j`
  pub record Tells (plugins : List NamedRule) (name_of : ℕ → List ℕ) (taken : ℕ → ℕ) (w : ℕ) (told : List ToldLine)
      (core : CoreNumbers) (parts : List (StagePart S K P)) (cells : List Cell) : Type 0 where
    pub rules : begun.rules ≡ rules_of plugins
    pub names : AreNames name_of 0 plugins
    pub goes : IsRunning see (told_to begun taken) core parts cells
    pub given : w ≤ length ((state_after begun.plan goes.runs.visits).stages (suc begun.plan.plugins)).given
    pub lines : map (shown name_of) told ≡ lines_to (met_in (state_after begun.plan goes.runs.visits)) plugins w
