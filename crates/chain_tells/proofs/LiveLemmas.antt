-- A chain that tells its lines while it runs: one telling, one round, and the end.
use Rattle.std.proofs.Common.{◌≡◌, ℕ, suc, ◌<◌, ◌≤◌, List, [], ◌∷◌, ◌++◌, length, map, Bool, true, false, Result, Ok, Err, ap, sym, ◌∙◌, subst, append-nil}
use Rattle.std.specs.Prelude.{IfOk, OnErr, is_err}
use Rattle.ts_packet.specs.declared.cell.Cell.{Cell}
use Rattle.chain_model.specs.Reports.{NamedRule}
use Rattle.chain_core.specs.declared.closed.Closed.{Closed}
use Rattle.chain_core.specs.declared.core_plan.CorePlan.{CorePlan}
use Rattle.chain_core.specs.Stages.{stages_of}
use Rattle.chain_core.specs.CoreNumbers.{CoreNumbers, progress_of_core}
use Rattle.plugin_trait.specs.declared.heard.Heard.{Heard}
use Rattle.stage_run.specs.Seeing.{Seeing}
use Rattle.stage_run.specs.declared.input_part.InputPart.{InputPart}
use Rattle.stage_run.specs.declared.output_part.OutputPart.{OutputPart}
use Rattle.stage_run.specs.declared.stage_part.StagePart.{StagePart}
use Rattle.stage_run.specs.declared.stuffing.Stuffing.{Stuffing}
use Rattle.chain_live.specs.LiveReports.{lines_below}
use Rattle.chain_rounds.specs.Told.{shown}
use Rattle.chain_rounds.specs.declared.told_line.ToldLine.{ToldLine}
use Rattle.chain_run.specs.Runs.{RunStart, began_with}
use Rattle.chain_run.specs.RunTold.{ClosesTold}
use Rattle.chain_run.specs.Working.{IsRunning, RunsSomehow, RunsOn}
use Rattle.chain_run.specs.declared.serial_chain.SerialChain.{SerialChain}
use Rattle.chain_tells.specs.Telling.{Tells}
use Rattle.chain_tells.specs.Live.{lines_of_rows, HasTold, ToldNow, LiveRun}

pub when-ok : {T E : Type 0} (r : Result T E) (P : Type 0) → is_err r ≡ false → IfOk r (λ _. P) → P
when-ok (Ok x) P is p = p
when-ok (Err e) P is p = absurd cc

pub when-err : {T E : Type 0} (r : Result T E) (P : Type 0) → is_err r ≡ true → OnErr r P → P
when-err (Ok x) P is p = absurd cc
when-err (Err e) P is p = p

module _ {S K P L : Type 0} (see : Seeing S K P) (begun : RunStart S K) (plugins : List NamedRule) (name_of : ℕ → List ℕ)
    (hears : L → L → List ToldLine → Type 0) (first was : L) (core : CoreNumbers) (parts : List (StagePart S K P)) (cells : List Cell)
    (has : HasTold see begun plugins name_of hears first was core parts cells) where
  -- after a round
  pub told-still : (core_new : CoreNumbers) (parts_new : List (StagePart S K P)) (cells_new : List Cell)
      → Tells see begun plugins name_of (λ _. has.w) has.w (lines_of_rows has.rows) core_new parts_new cells_new
      → HasTold see begun plugins name_of hears first was core_new parts_new cells_new
  told-still core_new parts_new cells_new tells = record { w = has.w; rows = has.rows; heard = has.heard; tells = tells }

  module _ (core_new : CoreNumbers) (parts_new : List (StagePart S K P)) (cells_new : List Cell) where
    -- where memory ran out
    pub told-late : Tells see begun plugins name_of (λ _. has.w) has.w (lines_of_rows has.rows) core_new parts_new cells_new
        → ToldNow see begun plugins name_of hears first was false core_new parts_new cells_new
    told-late tells = record { has = told-still core_new parts_new cells_new tells; whole = λ is. absurd cc }

    module _ (written : ℕ) (given : written ≡ (progress_of_core core_new (suc begun.plan.plugins)).given) (lines : List ToldLine)
        (tells : Tells see begun plugins name_of (λ _. written) written (lines_of_rows has.rows ++ lines) core_new parts_new cells_new) where
      -- where no line is new
      pub told-nothing : lines ≡ [] → ToldNow see begun plugins name_of hears first was true core_new parts_new cells_new
      told-nothing none = record {
        has = record {
          w = written;
          rows = has.rows;
          heard = has.heard;
          tells = subst (λ (l : List ToldLine). Tells see begun plugins name_of (λ _. written) written l core_new parts_new cells_new)
              (ap (λ (l : List ToldLine). lines_of_rows has.rows ++ l) none ∙ append-nil (lines_of_rows has.rows)) tells;
        };
        whole = λ is. given;
      }

      -- where the listener heard them
      pub told-more : (now : L) → 0 < length lines → hears was now lines → ToldNow see begun plugins name_of hears first now true core_new parts_new cells_new
      told-more now some heard = record {
        has = record { w = written; rows = lines ∷ has.rows; heard = (was, has.heard, some, heard); tells = tells };
        whole = λ is. given;
      }

-- at the end
pub live-run : {S K P L : Type 0} (see : Seeing S K P) (plugins : List NamedRule) (name_of : ℕ → List ℕ)
    (hears : L → L → List ToldLine → Type 0) (first now : L) (all : Bool) (from made_from : InputPart S) (stuffing : Stuffing)
    (met_none made : List (Heard P)) (to made_to : OutputPart K) (plan : CorePlan) (closed : Closed)
    (core : CoreNumbers) (parts : List (StagePart S K P)) (cells : List Cell)
    (told : ToldNow see (began_with see from stuffing met_none to plan) plugins name_of hears first now all core parts cells)
    (closes : ClosesTold see (λ _. told.has.w) told.has.tells.goes.runs.visits from made_from stuffing met_none made to made_to plan closed)
    → told.has.w ≤ closed.cut
    → (told.has.w ≡ (progress_of_core core (suc plan.plugins)).given → told.has.w ≡ closed.cut)
    → map (shown name_of) (lines_of_rows told.has.rows) ≡ lines_below (record { input = closes.run.list; plugins = plugins; users = stages_of plan.users }) told.has.w
    → LiveRun see plugins name_of hears first now all from made_from stuffing met_none made to made_to plan closed
live-run see plugins name_of hears first now all from made_from stuffing met_none made to made_to plan closed core parts cells told closes within whole lines = record {
  w = told.has.w;
  run = closes.run;
  rows = told.has.rows;
  heard = told.has.heard;
  lines = lines;
  within = within;
  whole = λ is. whole (told.whole is);
}

-- a round leaves as many stages
pub parts-same : {S K P : Type 0} (see : Seeing S K P) (old new : SerialChain S K P) → RunsSomehow see old → RunsOn see old new → length new.parts.items ≡ length old.parts.items
parts-same see old new runs on = (on runs.0 runs.1).now.fits.stages_are ∙ sym runs.1.fits.stages_are

-- and a chain that runs
pub somehow-on : {S K P : Type 0} (see : Seeing S K P) (old new : SerialChain S K P) → RunsSomehow see old → RunsOn see old new → RunsSomehow see new
somehow-on see old new runs on = (runs.0, (on runs.0 runs.1).now)

pub somehow : {S K P : Type 0} (see : Seeing S K P) (begun : RunStart S K) (chain : SerialChain S K P) → IsRunning see begun chain.core chain.parts.items chain.cells.items → RunsSomehow see chain
somehow see begun chain runs = (begun, runs)

pub ok-of-err : {T E : Type 0} (r : Result T E) (P : T → Type 0) → is_err r ≡ true → IfOk r P
ok-of-err (Ok x) P is = absurd cc
ok-of-err (Err e) P is = tt

pub on-err : {T E : Type 0} (r : Result T E) (P : Type 0) → P → OnErr r P
on-err (Ok x) P p = tt
on-err (Err e) P p = p
