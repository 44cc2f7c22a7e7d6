-- Faults of continuity counters, where null packets have none.
use Rattle.std.proofs.Common.{◌≡◌, ℕ, Bool, List, [], length, ap, sym, ◌∙◌, refl, true, false, not, ◌==◌, if◌then◌else◌, Option, None, Some}
use Rattle.std.specs.Prelude.{is_some, option_to_list}
use Rattle.ts_packet.specs.declared.cell.Cell.{Cell}
use Rattle.ts_packet.specs.declared.numbers.TheConstants.{NULL_PID}
use Rattle.ts_packet.specs.Header.{pid_of}
use Rattle.plugin_notes.specs.declared.continuity_error.ContinuityError.{ContinuityError}
use Rattle.plugin_notes.specs.ContinuityErrors.{error_after}
use Rattle.plugin_notes.specs.Counters.{is_watched, last_of}
use Rattle.plug_analyze.specs.AnalyzeNotes.{is_any, is_fault_at}
use Rattle.plug_analyze.specs.AnalyzeRule.{all_pids}

-- all PIDs but that of null packets are looked at
pub watched : (pid : ℕ) → (pid == NULL_PID) ≡ false → is_watched all_pids pid ≡ true
watched pid other = ap not other

pub unwatched : (pid : ℕ) → (pid == NULL_PID) ≡ true → is_watched all_pids pid ≡ false
unwatched pid null = ap not null

-- a null packet has no fault
pub no_fault : (history : List Cell) (packet : List ℕ) → (pid_of packet == NULL_PID) ≡ true → false ≡ is_fault_at history packet
no_fault history packet null =
    sym (ap (λ (b : Bool). is_any (if not b then error_after (length history) (last_of (pid_of packet) history) packet else [])) null)

-- whether there is a fault
any_of : (fault : Option ContinuityError) → is_some fault ≡ is_any (option_to_list fault)
any_of None = refl
any_of (Some fault) = refl

pub any_is : (fault : Option ContinuityError) (errors : List ContinuityError) → option_to_list fault ≡ errors → is_some fault ≡ is_any errors
any_is fault errors same = any_of fault ∙ ap is_any same
