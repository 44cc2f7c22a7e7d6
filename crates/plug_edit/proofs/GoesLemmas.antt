-- Packets that go, and those that are left to the editor.
use Rattle.std.proofs.Common.{◌≡◌, ◌∙◌, ℕ, Bool, true, false, not, cond, List, refl, ap}
use Rattle.std.specs.Prelude.{◌&&◌, None, nat_eq, nat_lt}
use Rattle.ts_packet.specs.declared.cell.Cell.{Cell}
use Rattle.ts_packet.specs.declared.numbers.TheConstants.{NULL_PID}
use Rattle.ts_packet.specs.Cells.{Live}
use Rattle.ts_packet.specs.Header.{pid_of}
use Rattle.chain_model.specs.Apply.{became, outcome_of_live}
use Rattle.chain_model.specs.PluginRule.{PluginRule}
use Rattle.plugin_options.specs.NumberSet.{has_number}
use Rattle.plugin_trait.specs.Actions.{action}
use Rattle.plugin_trait.specs.Steps.{StepTells}
use Rattle.plugin_trait.specs.declared.outcome.Outcome.{Outcome}
use Rattle.plugin_trait.specs.declared.outcome.Outcome.TheVariants.{Pass, Drop, Last, Stop, Refuse, NoMemory}
use Rattle.plug_edit.specs.EditRule.{is_taken}
use Rattle.plug_edit.specs.PmtRule.{goes, without_pids}

-- the editor takes no packet that goes
pub goes_untaken : (dropped : List (ℕ × ℕ)) (pid : ℕ) (packet : List ℕ) → goes dropped pid packet ≡ true → is_taken pid packet ≡ false
goes_untaken dropped pid packet e = go (nat_eq (pid_of packet) pid) (has_number dropped (pid_of packet)) (nat_lt pid NULL_PID) e
  where
    go : (a b c : Bool) → (not a && b) ≡ true → (a && c) ≡ false
    go true b c h = cc
    go false b c h = refl

-- what becomes of a packet that stays is what the rule says
pub stays_as : (rule : PluginRule) (dropped : List (ℕ × ℕ)) (stuffing : Bool) (pid : ℕ) (history : List Cell) (packet : List ℕ) (labels : ℕ) →
    goes dropped pid packet ≡ false → became (without_pids dropped stuffing pid rule) history (Live packet labels) ≡ became rule history (Live packet labels)
stays_as rule dropped stuffing pid history packet labels e =
    ap (λ b. outcome_of_live (cond b (action stuffing None) (rule.outcome_of history packet labels)) (rule.labels_of history packet labels)) e

-- a step tells the same of two rules that make the same of the cell
pub tells_alike : (rule other : PluginRule) (history : List Cell) (cell : Cell) → became other history cell ≡ became rule history cell → (outcome : Outcome) (left : Cell) →
    StepTells rule history cell outcome left → StepTells other history cell outcome left
tells_alike rule other history cell same Pass left told = (same ∙ told.0, told.1)
tells_alike rule other history cell same Drop left told = (same ∙ told.0, told.1, told.2)
tells_alike rule other history cell same Last left told = same ∙ told
tells_alike rule other history cell same Stop left told = (same ∙ told.0, told.1)
tells_alike rule other history cell same (Refuse reason) left told = (same ∙ told.0, told.1)
tells_alike rule other history cell same NoMemory left told = told

-- equal parts make equal rules
pub same_without : (dropped others : List (ℕ × ℕ)) (stuffing : Bool) (pid place : ℕ) (rule other : PluginRule) → dropped ≡ others → pid ≡ place → rule ≡ other →
    without_pids dropped stuffing pid rule ≡ without_pids others stuffing place other
same_without dropped others stuffing pid place rule other e f g =
    ap (λ d. without_pids d stuffing pid rule) e ∙ ap (λ p. without_pids others stuffing p rule) f ∙ ap (without_pids others stuffing place) g
