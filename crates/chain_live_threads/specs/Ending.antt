-- The end of a run in two threads, and its last lines. This project's own rule.
use Rattle.std.specs.Prelude.{◌≡◌, ◌⊎◌, ℕ, suc, ◌<◌, ◌≤◌, List, [], length, map, take, slice_index_or, Bool, true, false}
use Rattle.ts_packet.specs.declared.cell.Cell.{Cell}
use Rattle.chain_model.specs.Apply.{StageList}
use Rattle.chain_model.specs.PluginRule.{PluginRule}
use Rattle.chain_model.specs.Reports.{NamedRule, rules_of}
use Rattle.chain_model.specs.StageLists.{stage_list}
use Rattle.chain_core.specs.ChainRun.{state_after}
use Rattle.plugin_trait.specs.declared.heard.Heard.{Heard}
use Rattle.stage_run.specs.HeardSince.{HeardSince}
use Rattle.stage_run.specs.Seeing.{Seeing}
use Rattle.chain_live.specs.LiveReports.{lines_to}
use Rattle.chain_rounds.specs.Round.{AreNames}
use Rattle.chain_rounds.specs.Told.{shown, told_merged}
use Rattle.chain_rounds.specs.declared.told_line.ToldLine.{ToldLine}
use Rattle.chain_run.specs.Met.{MetFirst, AllMetFirst}
use Rattle.chain_run.specs.Runs.{RunStart}
use Rattle.chain_tells.specs.Live.{lines_of_rows, HeardRows}
use Rattle.chain_tells.specs.Taking.{met_in}
use Rattle.window_ring.specs.Seats.{seen_of}
use Rattle.window_ring.specs.declared.stage_seat.StageSeat.{StageSeat}
use Rattle.chain_threads.specs.Standing.{written_by}

-- a plugin of which the lines below this position were taken away
abbrev pub HeardFrom : {P : Type 0} → (P → PluginRule) → (P → List Cell → ℕ → Type 0) → ℕ → Heard P → List Cell → ℕ → Type 0
HeardFrom rule stands from heard history mark = HeardSince rule stands from heard history mark

-- the rules of plugins
abbrev pub rules_by : {P : Type 0} → (P → PluginRule) → List (Heard P) → List PluginRule
rules_by rule plugins = map (λ (heard : Heard _). rule heard.plugin) plugins

module _ {P : Type 0} (rule : P → PluginRule) (stands : P → List Cell → ℕ → Type 0) where
  -- a plugin that met the first cells of a list, and has the cut as its mark
  pub record IsMarkedTo (from : ℕ) (heard : Heard P) (list : List Cell) (count cut : ℕ) : Type 0 where
    pub met : MetFirst (HeardFrom rule stands from) heard list count cut
    pub mark_is : met.mark ≡ cut

  module _ (rules : List PluginRule) (input : StageList) (gave : ℕ → ℕ) (from cut : ℕ) where
    -- of the plugins from the one after `j` others on these lines were taken away: those from `from` on and before the cut
    pub record TakesRest (j : ℕ) (old new : List (Heard P)) (lines : List ToldLine) : Type 0 where
      pub met : AllMetFirst (HeardFrom rule stands cut) rules input gave cut j new
      pub lines_are : lines
          ≡ told_merged (λ i. take (gave (suc i)) (stage_list rules input i).cells) from cut j (rules_by rule old)

    -- the last lines of plugins were taken away, and the listener heard them, where there are some; or memory ran out, the
    -- plugins kept them, and the listener heard nothing
    abbrev pub TellsRest : {L : Type 0} → (L → L → List ToldLine → Type 0) → L → L → Bool → List (Heard P) → List (Heard P) → Type 0
    TellsRest hears was now true old new = (lines : List ToldLine) × TakesRest 0 old new lines
        × (((lines ≡ []) × (now ≡ was)) ⊎ ((0 < length lines) × hears was now lines))
    TellsRest hears was now false old new = AllMetFirst (HeardFrom rule stands from) rules input gave cut 0 new × (now ≡ was)

-- what was told of a run by the stages with these seats, by what each has seen, and the listener heard
pub record SeatsHaveTold {S K P L : Type 0} (see : Seeing S K P) (begun : RunStart S K) (plugins : List NamedRule)
    (name_of : ℕ → List ℕ) (hears : L → L → List ToldLine → Type 0) (first now : L) (w : ℕ) (seats : List StageSeat) : Type 0 where
  pub rules : begun.rules ≡ rules_of plugins
  pub names : AreNames name_of 0 plugins
  pub rows : List (List ToldLine)
  pub heard : HeardRows hears first now rows
  pub none : begun.plan.plugins ≡ 0 → w ≡ 0
  pub within : (j : ℕ) (d : StageSeat) → j < begun.plan.plugins
      → w ≤ written_by see begun (seen_of (slice_index_or seats (suc j) d))
  pub lines : (d : StageSeat) → map (shown name_of) (lines_of_rows rows)
      ≡ lines_to (λ j. met_in (state_after begun.plan (seen_of (slice_index_or seats (suc j) d))) j) plugins w
