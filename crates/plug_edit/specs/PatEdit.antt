-- The edit of a PAT.
-- ISO/IEC 13818-1, 2.4.4.3 to 2.4.4.5: program_number 0 has the network PID, each other one the PID of its PMT. The edit
-- is this project's own rule: services are removed, then others are added, then transport_stream_id, network PID and
-- version are set. The network entry comes first.
use Rattle.std.specs.Prelude.{ℕ, ◌++◌, ◌∷◌, [], Bool, List, Option, Some, None, filter, find, fold, nat_eq, not, option_to_list, unwrap_or}
use Rattle.ts_table_rows.specs.TableValues.{ItemHolding, TableHolding}
use Rattle.ts_psi.specs.PatTables.{entry_item, is_network}
use Rattle.ts_psi.specs.declared.pat.PatService.{PatService}
use Rattle.plugin_options.specs.NumberSet.{has_number}
use Rattle.plug_edit.specs.Changing.{changed_first}
use Rattle.plug_psi.specs.NumbersHeld.{number_at}
use Rattle.plug_edit.specs.Versions.{edited_version}
use Rattle.plug_edit.specs.declared.pat_conf.EditPatConf.{EditPatConf}

-- the program_number of an entry
abbrev pub service_of : ItemHolding → ℕ
service_of entry = number_at entry.values 0

-- a service has this number
abbrev pub is_service : ℕ → PatService → Bool
is_service id service = nat_eq service.service_id id

-- the entries of services
abbrev pub services_among : List ItemHolding → List ItemHolding
services_among entries = filter (λ entry. not (is_network entry)) entries

-- entries without those of the services that are listed
abbrev pub without_services : List (ℕ × ℕ) → List ItemHolding → List ItemHolding
without_services listed entries = filter (λ entry. not (has_number listed (service_of entry))) entries

-- a service and its PID replace the first entry of that service, or come last
abbrev pub with_service : List ItemHolding → ℕ × ℕ → List ItemHolding
with_service entries added =
    changed_first (λ entry. nat_eq (service_of entry) added.0) (λ _. entry_item added.0 added.1) (entry_item added.0 added.1) entries

-- services are added one after another
abbrev pub with_services : List ItemHolding → List (ℕ × ℕ) → List ItemHolding
with_services entries added = fold with_service entries added

-- the network entry: that of a PID which is given, or else the one among the entries
abbrev pub network_entry : Option ℕ → List ItemHolding → List ItemHolding
network_entry None entries = option_to_list (find is_network entries)
network_entry (Some pid) entries = entry_item 0 pid ∷ []

-- the entries after the edit
abbrev pub edited_entries : EditPatConf → List ItemHolding → List ItemHolding
edited_entries conf entries =
    network_entry conf.nit entries
    ++ with_services (without_services conf.remove_service (services_among entries)) conf.add_service

-- a PAT after the edit
abbrev pub edited_pat : EditPatConf → TableHolding → TableHolding
edited_pat conf table = record {
  head = record table.head {
    extension = unwrap_or conf.ts_id table.head.extension;
    version = edited_version conf.new_version conf.increment_version table.head.version;
  };
  body = record table.body { items = edited_entries conf table.body.items };
}
