-- What a PID is used for that is not a component's. ISO/IEC 13818-1, 2.4.4.3, 2.4.4.6 and 2.4.4.8: a PAT has the PIDs of
-- PMTs and the network PID, a PMT the PCR_PID and the PIDs of ECMs, a CAT those of EMMs. The order in which they count
-- is this project's own rule.
use Rattle.std.specs.Prelude.{ℕ, ◌==◌, Bool, false, List, drop, find, Option, None, Some, option_to_list, unwrap_or, codes, if◌then◌else◌}
use Rattle.std.specs.List.{flat_map, list_any}
use Rattle.ts_table_pages.specs.PatEntries.{is_network}
use Rattle.ts_table_rows.specs.BodyReading.{first_number}
use Rattle.ts_table_rows.specs.TableValues.{ItemHolding, TableHolding}
use Rattle.plug_psi.specs.InForce.{names, pat_of, pmt_of, services_in}
use Rattle.plug_psi.specs.ServicePids.{has_pid}
use Rattle.plug_info_texts.specs.InfoNames.{pid_names, text_for}
use Rattle.plug_info.specs.CaSystems.{ecm_systems, emm_systems}
use Rattle.plug_info.specs.PmtFields.{pcr_pid_in}
use Rattle.plug_info.specs.declared.ca_system.CaSystem.{CaSystem}

-- the PID of an entry of a PAT
abbrev pub entry_pid : Option ItemHolding → Option ℕ
entry_pid None = None
entry_pid (Some entry) = first_number (drop 1 entry.values)

-- the network PID of a PAT: that of its entry of program_number 0
abbrev pub network_pid_in : Option TableHolding → Option ℕ
network_pid_in None = None
network_pid_in (Some pat) = entry_pid (find is_network pat.body.items)

-- whether there is a number, and it is this one
abbrev pub is_pid : Option ℕ → ℕ → Bool
is_pid None pid = false
is_pid (Some n) pid = n == pid

-- the PCR_PIDs of the PMTs in force
abbrev pub pcr_pids : List (List ℕ) → List ℕ
pcr_pids packets = flat_map (λ service. option_to_list (pcr_pid_in (pmt_of service.0 packets))) (services_in (pat_of packets))

-- whether one of some systems has this PID
abbrev pub is_of_one : List CaSystem → ℕ → Bool
is_of_one systems pid = list_any (λ system. system.pid == pid) systems

-- the use of a PID by the tables in force: in this order by a service of the PAT, by the PAT for the network, by a PMT
-- for the PCR, by a CA_descriptor of a PMT, and by one of the CAT
abbrev pub named_use : List (List ℕ) → ℕ → List ℕ
named_use packets pid =
    if names (pat_of packets) pid then codes "PMT"
    else (if is_pid (network_pid_in (pat_of packets)) pid then codes "NIT"
    else (if has_pid (pcr_pids packets) pid then codes "PCR"
    else (if is_of_one (ecm_systems packets) pid then codes "ECM"
    else (if is_of_one (emm_systems packets) pid then codes "EMM" else codes "unnamed"))))

-- the use of a PID that no component has: that of a PID to which the standards give one, or else by the tables in force
abbrev pub use_of : List (List ℕ) → ℕ → List ℕ
use_of packets pid = unwrap_or (text_for pid_names pid) (named_use packets pid)
