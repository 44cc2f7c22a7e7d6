-- What the flags of PIDs say of PIDs.
use Rattle.std.proofs.Common.{◌≡◌, ℕ, ◌&&◌, not, List, [], ap, ap₂, ◌∙◌}
use Rattle.std.specs.Prelude.{Option}
use Rattle.ts_table_rows.specs.TableValues.{TableHolding}
use Rattle.plug_service.specs.ActionsState.{protected_pids}
use Rattle.plug_psi.specs.ServicePids.{has_pid}
use Rattle.plug_service.specs.Actions.{is_in_pmts, own_pids}
use Rattle.plug_service.specs.declared.way.Way.{Way}
use Rattle.plug_service.specs.declared.way.Way.TheVariants.{Keep, Remove}
use Rattle.plug_psi.proofs.FlagLemmas.{and_true}

-- what the flags say by the PIDs of the service's PMT and those that are protected
pub told-by :
    (way : Way) (services : List ℕ) (pat : Option TableHolding) (pmts : ℕ → Option TableHolding) (own others : List ℕ) →
    own ≡ own_pids services pmts → others ≡ protected_pids way services pat pmts → (pid : ℕ) →
    (has_pid own pid && not (has_pid others pid)) ≡ is_in_pmts way services pat pmts pid
told-by (Keep kept) services pat pmts own others e f pid =
    ap (λ l. has_pid own pid && not (has_pid l pid)) f ∙ and_true (has_pid own pid) ∙ ap (λ l. has_pid l pid) e
told-by (Remove everywhere) services pat pmts own others e f pid = ap₂ (λ l m. has_pid l pid && not (has_pid m pid)) e f

-- what the flags say by some PIDs alone
pub told-all : (pids pids' : List ℕ) → pids ≡ pids' → (pid : ℕ) → (has_pid pids pid && not (has_pid [] pid)) ≡ has_pid pids' pid
told-all pids pids' e pid = and_true (has_pid pids pid) ∙ ap (λ l. has_pid l pid) e
