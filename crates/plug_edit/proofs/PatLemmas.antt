-- The entries of a PAT.
use Rattle.std.proofs.Common.{◌≡◌, ℕ, Bool, false, List, [], ◌∷◌, ◌++◌, map, refl, sym, ap, ◌∙◌, arith}
use Rattle.std.specs.Prelude.{find, Option, Some, None, option_to_list, unwrap_or}
use Rattle.std.specs.Option.{option_or}
use Rattle.std.proofs.lemmas.Bool.{ne_eqb}
use Rattle.ts_table_rows.specs.TableValues.{ItemHolding, TableHolding}
use Rattle.ts_psi.specs.PatTables.{is_network, network_items, pat_held, service_item}
use Rattle.ts_psi.specs.declared.pat.PatService.{PatService}
use Rattle.ts_psi.specs.declared.pat.Pat.{Pat}
use Rattle.plug_edit.specs.PatEdit.{edited_entries, edited_pat, network_entry, services_among, with_services, without_services}
use Rattle.plug_edit.specs.Versions.{edited_version}
use Rattle.plug_edit.specs.declared.pat_conf.EditPatConf.{EditPatConf}

no-network : (s : PatService) → is_network (service_item s) ≡ false
no-network s = ne_eqb s.service_id 0 (λ e. absurd (omega (arith, e, s.named)))

-- the entries of services alone have no network entry
none-found : (services : List PatService) → find is_network (map service_item services) ≡ None
none-found [] = refl
none-found (s ∷ services) = rw (no-network s) (none-found services)

all-services : (services : List PatService) → services_among (map service_item services) ≡ map service_item services
all-services [] = refl
all-services (s ∷ services) = rw (no-network s) (ap (λ l. service_item s ∷ l) (all-services services))

-- the services of a PAT are the entries that are no network entry
pub services_of_pat : (network : Option ℕ) (services : List PatService) → services_among (network_items network ++ map service_item services) ≡ map service_item services
services_of_pat None services = all-services services
services_of_pat (Some pid) services = all-services services

-- its network entry is the PID that is given, or its own
pub network_of_pat : (given network : Option ℕ) (services : List PatService) → network_entry given (network_items network ++ map service_item services) ≡ network_items (option_or given network)
network_of_pat None None services = ap option_to_list (none-found services)
network_of_pat None (Some pid) services = refl
network_of_pat (Some given) network services = refl

abbrev held_as : (version : ℕ) (current : Bool) (stream : ℕ) (items : List ItemHolding) → TableHolding
held_as version current stream items = record {
  head = record { table_id = 0x00; extension = stream; version = version; current = current; numbers = None };
  body = record { values = []; descriptors = []; items = items };
}

-- a PAT with these fields is the edited one
pub pat_edited :
    (conf : EditPatConf) (old : Pat) (version : ℕ) (stream : ℕ) (network : Option ℕ) (services : List PatService) →
    version ≡ edited_version conf.new_version conf.increment_version old.version →
    stream ≡ unwrap_or conf.ts_id old.stream_id → network ≡ option_or conf.nit old.network_pid →
    map service_item services ≡ with_services (without_services conf.remove_service (map service_item old.services)) conf.add_service →
    held_as version old.current stream (network_items network ++ map service_item services) ≡ edited_pat conf (pat_held old)
pat_edited conf old version stream network services version-is stream-is network-is services-are =
    let held : List ItemHolding = network_items old.network_pid ++ map service_item old.services in
    let entries : network_items network ++ map service_item services ≡ edited_entries conf held =
    ap (λ n. network_items n ++ map service_item services) network-is
    ∙ ap (λ l. network_items (option_or conf.nit old.network_pid) ++ l) services-are
    ∙ ap (λ l. l ++ with_services (without_services conf.remove_service (map service_item old.services)) conf.add_service) (sym (network_of_pat conf.nit old.network_pid old.services))
    ∙ ap (λ l. network_entry conf.nit held ++ with_services (without_services conf.remove_service l) conf.add_service) (sym (services_of_pat old.network_pid old.services)) in
    ap (λ v. held_as v old.current stream (network_items network ++ map service_item services)) version-is
    ∙ ap (λ s. held_as (edited_version conf.new_version conf.increment_version old.version) old.current s (network_items network ++ map service_item services)) stream-is
    ∙ ap (held_as (edited_version conf.new_version conf.increment_version old.version) old.current (unwrap_or conf.ts_id old.stream_id)) entries
