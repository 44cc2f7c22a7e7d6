-- What becomes of the packets on a PID if services are kept or removed.
-- This project's own rule, over the PAT of ISO/IEC 13818-1, 2.4.4.3 and the SDT on PID 17 of ETSI EN 300 468, 5.1.3. First
-- come PID 0 and PID 17, whose tables are edited, then the PIDs of other tables that are kept (ETSI EN 300 468, 5.1.3: the NIT on
-- PID 16, EITs on PID 18, TDT and TOT on PID 20), then the PIDs of the services' PMTs, then the PIDs that these PMTs have.
use Rattle.std.specs.Prelude.{ℕ, ◌<◌, ◌==◌, ◌&&◌, ◌||◌, Bool, true, false, not, nat_lt, List, [], count_by, filter, filter_map, Option, if◌then◌else◌}
use Rattle.std.specs.List.{flat_map}
use Rattle.ts_packet.specs.declared.numbers.TheConstants.{NULL_PID}
use Rattle.ts_table_rows.specs.TableValues.{TableHolding}
use Rattle.plug_psi.specs.InForce.{may_have_tables, pat_of, pid_for, pmt_of, services_in}
use Rattle.plug_psi.specs.ServicePids.{has_pid, pids_of}
use Rattle.named_services.specs.ServiceLists.{is_one}
use Rattle.named_services.specs.NamedServices.{services_after}
use Rattle.named_services.specs.declared.service_word.ServiceWord.{ServiceWord}
use Rattle.plug_service.specs.declared.kept.Kept.{Kept}
use Rattle.plug_service.specs.declared.way.Way.{Way}
use Rattle.plug_service.specs.declared.way.Way.TheVariants.{Keep, Remove}
use Rattle.plug_service.specs.declared.action.Action.{Action}
use Rattle.plug_service.specs.declared.action.Action.TheVariants.{EditPat, EditSdt, EditNit, EditEit, EditPmt, Pass, Drop}

-- the packets on PID 0 and PID 17 are edited, whatever becomes of those on other PIDs
abbrev pub edited_first : ℕ → Action → Action
edited_first pid other = if pid == 0 then EditPat else (if pid == 17 then EditSdt else other)

-- the PIDs of other tables that are kept, whatever becomes of packets on other PIDs: NIT, TDT and TOT pass, and EITs are edited
abbrev pub kept_first : Kept → ℕ → Action → Action
kept_first kept pid other =
    if kept.nit && (pid == 16) then Pass
    else (if kept.time && (pid == 20) then Pass else (if kept.eit && (pid == 18) then EditEit else other))

-- if services are removed everywhere, NITs and EITs are edited, whatever becomes of packets on other PIDs
abbrev pub removed_first : Bool → ℕ → Action → Action
removed_first everywhere pid other =
    if everywhere && (pid == 16) then EditNit else (if everywhere && (pid == 18) then EditEit else other)

-- If services are kept, packets on the PIDs of their PMTs are edited, but null packets are dropped. Packets on the PIDs that
-- a PMT of theirs has pass, and all others are dropped.
abbrev pub kept_action : Bool → Bool → ℕ → Action
kept_action is_of_pmt is_in_pmt pid =
    if is_of_pmt then (if pid == NULL_PID then Drop else EditPmt) else (if is_in_pmt then Pass else Drop)

-- If services are removed, packets on the PIDs of their PMTs are dropped unless another entry of the PAT shares the PID. So
-- are packets on the PIDs that their PMTs alone have, except PIDs up to 31, which are for tables. All others pass.
abbrev pub removed_action : Bool → Bool → Bool → ℕ → Action
removed_action is_of_pmt is_shared is_in_pmt_alone pid =
    if is_of_pmt then (if is_shared then Pass else Drop)
    else (if nat_lt 31 pid && is_in_pmt_alone then Drop else Pass)

-- the PIDs of the PMTs of services: of each service that a PAT has, that of its first entry
abbrev pub pmt_pids : List ℕ → Option TableHolding → List ℕ
pmt_pids services pat = filter_map (pid_for pat) services

-- whether more entries of a PAT have a PID than there are in a list of PIDs
abbrev pub more_entries : List ℕ → Option TableHolding → ℕ → Bool
more_entries pids pat pid = nat_lt (count_by (λ p. p == pid) pids) (count_by (λ entry. entry.1 == pid) (services_in pat))

-- Whether an entry of a PAT that is the first one of none of the services has a PID. The services are different, and so are
-- their first entries: there is such an entry exactly if more entries than first entries of these services have the PID.
abbrev pub is_shared : List ℕ → Option TableHolding → ℕ → Bool
is_shared services pat = more_entries (pmt_pids services pat) pat

-- the PIDs of the PMTs of services that other entries have too
abbrev pub shared_pids : List ℕ → Option TableHolding → List ℕ
shared_pids services pat = filter (is_shared services pat) (pmt_pids services pat)

-- the PIDs that the PMTs in force of services have
abbrev pub own_pids : List ℕ → (ℕ → Option TableHolding) → List ℕ
own_pids services pmts = flat_map (λ service. pids_of (pmts service)) services

-- the PIDs of the PMT in force of an entry of a PAT; none if the entry is one of the services
abbrev pub pids_besides : List ℕ → (ℕ → Option TableHolding) → ℕ × ℕ → List ℕ
pids_besides services pmts entry = if is_one services entry.0 then [] else pids_of (pmts entry.0)

-- the PIDs of the PMTs in force of the other services of a PAT
abbrev pub other_pids : List ℕ → Option TableHolding → (ℕ → Option TableHolding) → List ℕ
other_pids services pat pmts = flat_map (pids_besides services pmts) (services_in pat)

-- whether a PID is one of the services' PMTs and of no other
abbrev pub is_in_pmts_alone : List ℕ → Option TableHolding → (ℕ → Option TableHolding) → ℕ → Bool
is_in_pmts_alone services pat pmts pid =
    has_pid (own_pids services pmts) pid && not (has_pid (other_pids services pat pmts) pid)

-- what becomes of packets on a PID by three tests of it: whether the services have PMTs there, whether another entry of the PAT
-- has it too, and whether their PMTs have it; if the services are removed, and no other's
abbrev pub action_by : Way → Bool → Bool → Bool → ℕ → Action
action_by (Keep kept) is_of_pmt is_shared is_in_pmt pid = edited_first pid (kept_first kept pid (kept_action is_of_pmt is_in_pmt pid))
action_by (Remove everywhere) is_of_pmt is_shared is_in_pmt_alone pid =
    edited_first pid (removed_first everywhere pid (removed_action is_of_pmt is_shared is_in_pmt_alone pid))

-- what the last of these tests is
abbrev pub is_in_pmts : Way → List ℕ → Option TableHolding → (ℕ → Option TableHolding) → ℕ → Bool
is_in_pmts (Keep kept) services pat pmts pid = has_pid (own_pids services pmts) pid
is_in_pmts (Remove everywhere) services pat pmts pid = is_in_pmts_alone services pat pmts pid

-- what becomes of packets on a PID if this PAT and these PMTs are in force
abbrev pub action_of : Way → List ℕ → Option TableHolding → (ℕ → Option TableHolding) → ℕ → Action
action_of way services pat pmts pid =
    action_by way (has_pid (pmt_pids services pat) pid) (has_pid (shared_pids services pat) pid) (is_in_pmts way services pat pmts pid) pid

-- what becomes of packets on a PID after these packets of any PID
unfoldable pub action_after : Way → List ServiceWord → List (List ℕ) → ℕ → Action
action_after way words packets pid = action_of way (services_after words packets) (pat_of packets) (λ other. pmt_of other packets) pid

-- whether packets with this action are edited as those of PMTs
abbrev pub edits_pmt : Action → Bool
edits_pmt EditPmt = true
edits_pmt EditPat = false
edits_pmt EditSdt = false
edits_pmt EditNit = false
edits_pmt EditEit = false
edits_pmt Pass = false
edits_pmt Drop = false

-- whether packets with this fate are edited, so that what comes in their place is made of tables
abbrev pub is_edit : Action → Bool
is_edit EditPat = true
is_edit EditSdt = true
is_edit EditNit = true
is_edit EditEit = true
is_edit EditPmt = true
is_edit Pass = false
is_edit Drop = false

-- whether NITs are edited
abbrev pub edits_nits : Way → Bool
edits_nits (Keep kept) = false
edits_nits (Remove everywhere) = everywhere

-- whether EIT sections are edited
abbrev pub edits_eits : Way → Bool
edits_eits (Keep kept) = kept.eit
edits_eits (Remove everywhere) = everywhere

-- whether the tables on a PID are read or edited, after some packets of any PID: those that may come into force, SDTs and BATs,
-- and NITs and EIT sections where they are edited
abbrev pub may_be_read : Way → ℕ → List (List ℕ) → Bool
may_be_read way pid packets =
    (pid == 17) || ((edits_nits way && (pid == 16)) || ((edits_eits way && (pid == 18)) || may_have_tables pid packets))

-- a PID whose packets are edited as those of PMTs is not that of null packets
abbrev pub IsEditable : Action → ℕ → Type 0
IsEditable EditPmt pid = pid < NULL_PID
IsEditable EditPat pid = Unit {0}
IsEditable EditSdt pid = Unit {0}
IsEditable EditNit pid = Unit {0}
IsEditable EditEit pid = Unit {0}
IsEditable Pass pid = Unit {0}
IsEditable Drop pid = Unit {0}
