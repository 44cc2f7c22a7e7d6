-- The PAT in force, and the PMT in force of a service.
-- ISO/IEC 13818-1, 2.4.4.3 and 2.4.4.8: the PAT on PID 0 names the PID of the PMT of each service. Which packets are
-- taken, and which table counts, is this project's own rule.
use Rattle.std.specs.Prelude.{ℕ, ◌==◌, Bool, not, ◌&&◌, ◌||◌, List, [], drop, Option, Some, None, if◌then◌else◌}
use Rattle.std.specs.List.{filter_map, list_any}
use Rattle.std.specs.Map.{lookup}
use Rattle.ts_packet.specs.declared.numbers.TheConstants.{NULL_PID}
use Rattle.ts_demux.specs.TablesOn.{tables_on}
use Rattle.ts_demux.specs.TakenWhere.{taken_on}
use Rattle.ts_table_rows.specs.BodyReading.{first_number}
use Rattle.ts_table_rows.specs.RunReading.{read_run}
use Rattle.ts_table_rows.specs.TableValues.{ItemHolding, TableHolding}
use Rattle.ts_psi.specs.PatTables.{read_pat}
use Rattle.ts_psi.specs.PsiPages.{pmt_page}
pub use Rattle.plug_psi.specs.CurrentTables.{current_in}
use Rattle.plug_psi.specs.LastFound.{last_found}

-- the PAT that a table is, if it reads as one and is current
abbrev pub current_pat : List (List ℕ) → Option TableHolding
current_pat run = current_in (read_pat run)

-- The PAT in force after some packets of any PID: the last complete table on PID 0 that is current and reads as a PAT.
unfoldable pub pat_of : List (List ℕ) → Option TableHolding
pat_of packets = last_found current_pat (tables_on 0 packets)

-- an entry of a PAT as a service_id and a PID; program_number 0 is no service
abbrev pub entry_of_numbers : Option ℕ → Option ℕ → Option (ℕ × ℕ)
entry_of_numbers None pid = None
entry_of_numbers (Some id) None = None
entry_of_numbers (Some id) (Some pid) = if id == 0 then None else Some (id, pid)

abbrev pub service_in : ItemHolding → Option (ℕ × ℕ)
service_in x = entry_of_numbers (first_number x.values) (first_number (drop 1 x.values))

-- the services of a PAT, each with the PID of its PMT, in their order
abbrev pub services_in : Option TableHolding → List (ℕ × ℕ)
services_in None = []
services_in (Some pat) = filter_map service_in pat.body.items

-- whether a service of a PAT has this PID
abbrev pub names : Option TableHolding → ℕ → Bool
names pat pid = list_any (λ service. service.1 == pid) (services_in pat)

-- the PID of the first entry of a service in a PAT
abbrev pub pid_for : Option TableHolding → ℕ → Option ℕ
pid_for pat service = lookup (λ id. id == service) (services_in pat)

-- whether packets on a PID count for PMTs where this PAT is in force: a service has the PID, and it is not that of null packets
abbrev pub is_named : Option TableHolding → ℕ → Bool
is_named pat pid = names pat pid && not (pid == NULL_PID)

-- Whether a PID is followed at the last of some packets of any PID, by the PAT in force there. The packets on the PID for
-- which this holds are those that are taken on it.
abbrev pub follows : ℕ → List (List ℕ) → Bool
follows pid packets = is_named (pat_of packets) pid

-- Whether tables in force may come with a packet on a PID, after some packets of any PID: the PATs come on PID 0, and PMTs on
-- the PIDs that are followed.
abbrev pub may_have_tables : ℕ → List (List ℕ) → Bool
may_have_tables pid packets = (pid == 0) || follows pid packets

-- a PMT, if it is of the service
abbrev pub of_service : ℕ → Option TableHolding → Option TableHolding
of_service service None = None
of_service service (Some pmt) = if pmt.head.extension == service then Some pmt else None

-- the PMT of a service that a table is, if it reads as one and is current
abbrev pub current_pmt : ℕ → List (List ℕ) → Option TableHolding
current_pmt service run = of_service service (current_in (read_run pmt_page run))

-- the last complete current PMT of a service that reads, of the packets that are taken on a PID
unfoldable pub pmt_on : ℕ → ℕ → List (List ℕ) → Option TableHolding
pmt_on pid service packets = last_found (current_pmt service) (tables_on pid (taken_on follows pid packets))

-- the same, if there is a PID
abbrev pub pmt_at : ℕ → List (List ℕ) → Option ℕ → Option TableHolding
pmt_at service packets None = None
pmt_at service packets (Some pid) = pmt_on pid service packets

-- the PMT in force of a service: on the PID of the service's first entry in the PAT in force
abbrev pub pmt_of : ℕ → List (List ℕ) → Option TableHolding
pmt_of service packets = pmt_at service packets (pid_for (pat_of packets) service)
