-- Of one service: the definitions say of a list that has this service alone what they would say of the service.
use Rattle.std.proofs.Common.{◌≡◌, ℕ, ◌+◌, ◌==◌, ◌&&◌, ◌||◌, not, Bool, true, false, List, [], ◌∷◌, ◌++◌, Option, None, Some, refl, ◌∙◌, ap, ap₂, append-nil}
use Rattle.std.specs.Prelude.{if◌then◌else◌, cond, count_by, filter, nat_lt}
use Rattle.std.specs.List.{cons_option, flat_map}
use Rattle.std.specs.Cmp.{nat_eq_equiv}
use Rattle.ts_table_rows.specs.RunReading.{read_run}
use Rattle.ts_table_rows.specs.TableValues.{TableHolding}
use Rattle.ts_psi.specs.PsiPages.{pmt_page}
use Rattle.plug_psi.specs.Edits.{Change, same, away}
use Rattle.plug_psi.specs.InForce.{current_in, current_pmt, of_service, pid_for, services_in}
use Rattle.plug_psi.specs.ServicePids.{has_pid, pids_of}
use Rattle.plug_service.specs.Actions.{action_of, edited_first, is_in_pmts_alone, kept_action, kept_first, more_entries, own_pids, pids_besides, removed_action}
use Rattle.plug_service.specs.Presence.{is_any_there, is_there}
use Rattle.plug_service.specs.ServiceEdits.{carried_if_one, pmt_change, stays}
use Rattle.named_services.specs.ServiceLists.{each_once, is_one}
use Rattle.plug_service.specs.declared.kept.Kept.{Kept}
use Rattle.plug_service.specs.declared.way.Way.{Way}
use Rattle.plug_service.specs.declared.way.Way.TheVariants.{Keep, Remove}

or-false : (b : Bool) → (b || false) ≡ b
or-false true = refl
or-false false = refl

-- whether a PID is given, and it is this one
abbrev pub is_at : Option ℕ → ℕ → Bool
is_at None pid = false
is_at (Some told) pid = told == pid

-- whether a PID is given that more than one entry has
abbrev pub is_shared_at : Option TableHolding → Option ℕ → Bool
is_shared_at pat None = false
is_shared_at pat (Some pid) = nat_lt 1 (count_by (λ entry. entry.1 == pid) (services_in pat))

-- the PIDs of the PMTs of the other entries
abbrev pub pids_but : ℕ → (ℕ → Option TableHolding) → ℕ × ℕ → List ℕ
pids_but service pmts entry = if entry.0 == service then [] else pids_of (pmts entry.0)

-- a PMT that is there is carried as it is
abbrev pub carried_if : Option TableHolding → Change
carried_if None = away
carried_if (Some table) = same

pub one-each : (service : ℕ) → each_once (service ∷ []) ≡ service ∷ []
one-each service = refl

pub one-is : (service id : ℕ) → is_one (service ∷ []) id ≡ (id == service)
one-is service id = or-false (id == service)

-- it is there as it was
pub one-there : (way : Way) (service : ℕ) (pat : Option TableHolding) (pmts : ℕ → Option TableHolding) → is_any_there way (service ∷ []) pat pmts ≡ is_there way service pat (pmts service)
one-there way service pat pmts = or-false (is_there way service pat (pmts service))

-- entries of the PAT and of the SDT stay by its number
pub one-stays : (kept : Kept) (service id : ℕ) → stays (Keep kept) (service ∷ []) id ≡ (id == service)
one-stays kept = one-is

pub one-goes : (service id : ℕ) → stays (Remove false) (service ∷ []) id ≡ not (id == service)
one-goes service id = ap not (one-is service id)

-- on its PID its current PMT is carried
pub one-carried : (service : ℕ) (run : List (List ℕ)) → pmt_change (service ∷ []) run ≡ carried_if (current_pmt service run)
one-carried service run = by (current_in (read_run pmt_page run))
  where
    chosen : (b : Bool) (pmt : TableHolding) → (if b || false then same else away) ≡ carried_if (if b then Some pmt else None)
    chosen true pmt = refl
    chosen false pmt = refl

    by : (o : Option TableHolding) → carried_if_one (service ∷ []) o ≡ carried_if (of_service service o)
    by None = refl
    by (Some pmt) = chosen (pmt.head.extension == service) pmt

-- ---- what becomes of packets on a PID

one-at : (told : Option ℕ) (pid : ℕ) → has_pid (cons_option told []) pid ≡ is_at told pid
one-at None pid = refl
one-at (Some at) pid = or-false (at == pid)

one-own : (service pid : ℕ) (pmts : ℕ → Option TableHolding) → has_pid (own_pids (service ∷ []) pmts) pid ≡ has_pid (pids_of (pmts service)) pid
one-own service pid pmts = ap (λ l. has_pid l pid) (append-nil (pids_of (pmts service)))

-- if it is kept
pub one-kept :
    (kept : Kept) (service : ℕ) (pat : Option TableHolding) (pmts : ℕ → Option TableHolding) (pid : ℕ) →
    action_of (Keep kept) (service ∷ []) pat pmts pid
    ≡ edited_first pid (kept_first kept pid (kept_action (is_at (pid_for pat service) pid) (has_pid (pids_of (pmts service)) pid) pid))
one-kept kept service pat pmts pid = ap (λ a. edited_first pid (kept_first kept pid a)) (ap₂ (λ a b. kept_action a b pid) (one-at (pid_for pat service) pid) (one-own service pid pmts))

-- another entry shares its PID where there is more than one
once-at : (at : ℕ) → count_by (λ p. p == at) (at ∷ []) ≡ 1
once-at at = ap (λ b. 0 + cond b 1 0) (nat_eq_equiv.refl at)

shared-of : (pat : Option TableHolding) (at pid : ℕ) → has_pid (filter (more_entries (at ∷ []) pat) (at ∷ [])) pid ≡ (if is_shared_at pat (Some at) then ((at == pid) || false) else false)
shared-of pat at pid =
    by (more_entries (at ∷ []) pat at) ∙ ap (λ n. if nat_lt n (count_by (λ entry. entry.1 == at) (services_in pat)) then ((at == pid) || false) else false) (once-at at)
  where
    by : (b : Bool) → has_pid (if b then at ∷ [] else []) pid ≡ (if b then ((at == pid) || false) else false)
    by true = refl
    by false = refl

removed-by : (a t c : Bool) (pid : ℕ) → removed_action (a || false) (if t then (a || false) else false) c pid ≡ removed_action a t c pid
removed-by true true c pid = refl
removed-by true false c pid = refl
removed-by false true c pid = refl
removed-by false false c pid = refl

removed-at :
    (pat : Option TableHolding) (told : Option ℕ) (c : Bool) (pid : ℕ) →
    removed_action (has_pid (cons_option told []) pid) (has_pid (filter (more_entries (cons_option told []) pat) (cons_option told [])) pid) c pid
    ≡ removed_action (is_at told pid) (is_shared_at pat told) c pid
removed-at pat None c pid = refl
removed-at pat (Some at) c pid =
    ap (λ s. removed_action ((at == pid) || false) s c pid) (shared-of pat at pid) ∙ removed-by (at == pid) (is_shared_at pat (Some at)) c pid

one-besides : (service : ℕ) (pmts : ℕ → Option TableHolding) (entries : List (ℕ × ℕ)) → flat_map (pids_besides (service ∷ []) pmts) entries ≡ flat_map (pids_but service pmts) entries
one-besides service pmts [] = refl
one-besides service pmts (entry ∷ entries) =
    ap₂ (λ l m. l ++ m) (ap (λ (b : Bool). if b then [] else pids_of (pmts entry.0)) (or-false (entry.0 == service))) (one-besides service pmts entries)

-- if it is removed
pub one-removed :
    (service : ℕ) (pat : Option TableHolding) (pmts : ℕ → Option TableHolding) (pid : ℕ) →
    action_of (Remove false) (service ∷ []) pat pmts pid
    ≡ edited_first pid (removed_action (is_at (pid_for pat service) pid) (is_shared_at pat (pid_for pat service))
    (has_pid (pids_of (pmts service)) pid && not (has_pid (flat_map (pids_but service pmts) (services_in pat)) pid)) pid)
one-removed service pat pmts pid =
    ap (edited_first pid)
    (removed-at pat (pid_for pat service) (is_in_pmts_alone (service ∷ []) pat pmts pid) pid
    ∙ ap₂ (λ a l. removed_action (is_at (pid_for pat service) pid) (is_shared_at pat (pid_for pat service)) (a && not (has_pid l pid)) pid)
    (one-own service pid pmts) (one-besides service pmts (services_in pat)))
