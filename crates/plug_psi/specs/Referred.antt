-- The PIDs that tables in force refer to.
-- ISO/IEC 13818-1, 2.4.4.3, 2.4.4.6 and 2.4.4.8: a PAT has the PIDs of PMTs and the network PID, a PMT the PIDs of its
-- service, and the CA_descriptors of a CAT the PIDs of EMMs. PIDs 0 to 31, on which the standards have tables of their own
-- (ETSI EN 300 468, 5.1.3), and 8191, that of null packets, are referred to without a table. That these are all is this
-- project's own rule.
use Rattle.std.specs.Prelude.{ℕ, ◌==◌, ◌||◌, Bool, List, [], ◌++◌, map, nat_le, Option, Some, None}
use Rattle.std.specs.List.{flat_map}
use Rattle.ts_packet.specs.declared.numbers.TheConstants.{NULL_PID}
use Rattle.ts_table_rows.specs.TableValues.{ItemHolding, TableHolding}
use Rattle.plug_psi.specs.NumbersHeld.{number_at}
use Rattle.plug_psi.specs.ServicePids.{ca_pids, has_pid, pids_of}
use Rattle.plug_psi.specs.InForce.{may_have_tables, pat_of, pmt_of, services_in}
use Rattle.plug_psi.specs.CatInForce.{cat_of}

-- the PID of an entry of a PAT, which comes after its program_number; for program_number 0 it is the network PID
abbrev pub entry_pid : ItemHolding → ℕ
entry_pid entry = number_at entry.values 1

-- the PIDs of the entries of a PAT, if there is one
abbrev pub entry_pids : Option TableHolding → List ℕ
entry_pids None = []
entry_pids (Some pat) = map entry_pid pat.body.items

-- the PIDs of the PMT in force of a service, which is given by its number and its PID
abbrev pub pids_by : (ℕ → Option TableHolding) → ℕ × ℕ → List ℕ
pids_by pmts service = pids_of (pmts service.0)

-- the PIDs of the PMTs in force of the services of a PAT
abbrev pub service_pids : Option TableHolding → (ℕ → Option TableHolding) → List ℕ
service_pids pat pmts = flat_map (pids_by pmts) (services_in pat)

-- the CA_PIDs of a CAT, if there is one
abbrev pub cat_pids : Option TableHolding → List ℕ
cat_pids None = []
cat_pids (Some cat) = ca_pids cat.body.descriptors

-- the PIDs that a PAT, the PMTs of services and a CAT name
abbrev pub named_pids : Option TableHolding → (ℕ → Option TableHolding) → Option TableHolding → List ℕ
named_pids pat pmts cat = entry_pids pat ++ (service_pids pat pmts ++ cat_pids cat)

-- whether the tables in force after packets of any PID name a PID
unfoldable pub named_in : List (List ℕ) → ℕ → Bool
named_in packets pid =
    has_pid (named_pids (pat_of packets) (λ service. pmt_of service packets) (cat_of packets)) pid

-- Whether a table that names PIDs may come with a packet on a PID, after some packets of any PID: a CAT on PID 1, or a PAT or a
-- PMT.
abbrev pub may_name_pids : ℕ → List (List ℕ) → Bool
may_name_pids pid packets = (pid == 1) || may_have_tables pid packets

-- whether a PID is referred to, whatever tables are in force
abbrev pub is_fixed : ℕ → Bool
is_fixed pid = nat_le pid 31 || (pid == NULL_PID)

-- whether a PID is referred to after packets of any PID
abbrev pub refers : List (List ℕ) → ℕ → Bool
refers packets pid = is_fixed pid || named_in packets pid
