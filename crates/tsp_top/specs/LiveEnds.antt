-- What a run ensures whose lines are printed while it goes. This project's own rule.
use Rattle.std.specs.Prelude.{◌≡◌, ◌≤◌, ℕ, List, map, Bool, true, false, Result, IfOk, OnErr}
use Rattle.std.specs.declared.alloc.AllocError.{AllocError}
use Rattle.ts_packet.specs.declared.cell.Cell.{Cell}
use Rattle.ts_outside.specs.Desk.{DeskView}
use Rattle.ts_outside.specs.Saying.{Says}
use Rattle.chain_args.specs.declared.general_conf.GeneralConf.{GeneralConf}
use Rattle.chain_model.specs.Prefix.{IsPrefix}
use Rattle.chain_model.specs.PureRun.{Chain}
use Rattle.chain_live.specs.LiveReports.{LiveLine}
use Rattle.chain_args.specs.declared.plan_type.Plan.{Plan}
use Rattle.chain_core.specs.declared.closed.Closed.{Closed}
use Rattle.chain_core.specs.declared.core_plan.CorePlan.{CorePlan}
use Rattle.chain_model.specs.Reports.{rules_of}
use Rattle.packet_forms.specs.declared.forms.Form.{Form}
use Rattle.search_source.specs.declared.gap.Gap.{Gap}
use Rattle.search_source.specs.declared.gap_counts.GapCounts.{GapCounts}
use Rattle.chain_tells.specs.InputLines.{lines_with}
use Rattle.plugin_trait.specs.declared.heard.Heard.{Heard}
use Rattle.stage_run.specs.Seeing.{Seeing, heard_rule}
use Rattle.stage_run.specs.declared.input_part.InputPart.{InputPart}
use Rattle.stage_run.specs.declared.output_part.OutputPart.{OutputPart}
use Rattle.stage_run.specs.declared.stuffing.Stuffing.{Stuffing}
use Rattle.chain_run.specs.RunOf.{RunBy, NeverBegan}
use Rattle.tsp_top.specs.InputRounds.{ToldGaps}
use Rattle.tsp_top.specs.LeftOut.{counts_below}
use Rattle.tsp_top.specs.PlannedChain.{named_rules, stuffing_of}
use Rattle.tsp_top.specs.Printed.{gap_line, live_text}
use Rattle.tsp_top.specs.Ran.{chain_over}

-- what a plugin stands for, whatever lines it gave out
abbrev pub plugin_stands : {P : Type 0} → (P → List Cell → ℕ → Type 0) → Heard P → List Cell → ℕ → Type 0
plugin_stands stands heard = stands heard.plugin

-- what was printed of the lines of a chain that is cut there, while it ran: first lines of those before a position, with these gaps of
-- its input; where nothing failed all lines before the cut, and the gaps were counted
pub record PrintedTo (general : GeneralConf) (chain : Chain) (cut : ℕ) (form : Form) (gaps : List Gap) (at : ℕ)
    (old new : DeskView) (failed whole : Bool) (counts : GapCounts) : Type 0 where
  pub within : at ≤ cut
  pub first : List LiveLine
  pub begins : IsPrefix first (lines_with (map (gap_line (stuffing_of general) form) gaps) chain at)
  pub said : Says old new (live_text general.bare first) failed
  pub all : whole ≡ true → failed ≡ false → (at ≡ cut) × (counts ≡ counts_below (stuffing_of general) cut form gaps)
      × (first ≡ lines_with (map (gap_line (stuffing_of general) form) gaps) chain at)

-- a run that was closed, and what was printed of its lines
pub record RanLive {S K P : Type 0} (see : Seeing S K P) (plan : Plan) (tables : List (List (List ℕ))) (stuffing : Stuffing)
    (numbers : CorePlan) (from made_from : InputPart S) (plugins made : List (Heard P)) (to made_to : OutputPart K)
    (old new : DeskView) (failed whole : Bool) (counts : GapCounts) (closed : Closed) : Type 0 where
  pub run : RunBy see (plugin_stands see.stands) from made_from stuffing plugins made to made_to numbers closed
  -- the gaps of the input that were told before a position, and their form
  pub form : Form
  pub gaps : List Gap
  pub at : ℕ
  pub told : ToldGaps see.source (stuffing_of plan.general) from at form gaps
  pub printed : PrintedTo plan.general (chain_over plan tables run.list) closed.cut form gaps at old new failed whole counts

-- the run of a plan was closed so, with these tables; or there was no memory for it, and nothing was printed
pub record EndsLive {S K P : Type 0} (see : Seeing S K P) (plan : Plan) (stuffing : Stuffing) (numbers : CorePlan)
    (from made_from : InputPart S) (plugins made : List (Heard P)) (to made_to : OutputPart K)
    (old new : DeskView) (failed whole : Bool) (counts : GapCounts) (closed : Result Closed AllocError) : Type 0 where
  pub run : (tables : List (List (List ℕ))) → map (heard_rule see) plugins ≡ rules_of (named_rules plan.plugins tables)
      → IfOk closed (λ closed. RanLive see plan tables stuffing numbers from made_from plugins made to made_to
      old new failed whole counts closed)
  pub never_began : OnErr closed (NeverBegan from made_from plugins made to made_to)
  pub silent : OnErr closed (new ≡ old)
