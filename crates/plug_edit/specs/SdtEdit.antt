-- The edit of an SDT.
-- ETSI EN 300 468, 5.2.3. The edit is this project's own rule: services are removed, then one is changed, or added last as
-- a new one if it is missing, then the version is set.
use Rattle.std.specs.Prelude.{ℕ, Bool, List, [], ◌∷◌, false, filter, find, nat_eq, not, Option, Some, None, option_map, unwrap_or}
use Rattle.ts_fields.specs.Layout.{number}
use Rattle.ts_table_rows.specs.RowWords.{flag}
use Rattle.ts_table_rows.specs.TableValues.{ItemHolding, TableHolding}
use Rattle.ts_si.specs.declared.services.SdtService.{SdtService}
use Rattle.plugin_options.specs.NumberSet.{has_number}
use Rattle.plug_edit.specs.Changing.{changed_first}
use Rattle.plug_psi.specs.NumbersHeld.{number_at}
use Rattle.plug_edit.specs.ServiceChange.{changed_service}
use Rattle.plug_edit.specs.Versions.{edited_version}
use Rattle.plug_edit.specs.declared.sdt_conf.EditSdtConf.{EditSdtConf}

-- services without those that are listed
abbrev pub without_services : List (ℕ × ℕ) → List ItemHolding → List ItemHolding
without_services listed services = filter (λ service. not (has_number listed (number_at service.values 0))) services

-- a service has this number
abbrev pub is_service : ℕ → SdtService → Bool
is_service id service = nat_eq service.service_id id

-- a new service: no EIT, running_status 4, not scrambled, without descriptors
abbrev pub new_service : ℕ → ItemHolding
new_service id = record {
  values = number id ∷ flag false ∷ flag false ∷ number 4 ∷ flag false ∷ [];
  descriptors = [];
}

-- a service of the table has this number
abbrev pub has_id : ℕ → ItemHolding → Bool
has_id id service = nat_eq (number_at service.values 0) id

-- a service replaces the first of its number, or comes last
abbrev pub with_changed : ℕ → List ItemHolding → ItemHolding → List ItemHolding
with_changed id services changed = changed_first (has_id id) (λ _. changed) changed services

-- the first service of a number changed, or a new one last; none if a descriptor would exceed 255 bytes
abbrev pub with_service : EditSdtConf → ℕ → List ItemHolding → Option (List ItemHolding)
with_service conf id services =
    option_map (with_changed id services) (changed_service conf (unwrap_or (find (has_id id) services) (new_service id)))

-- the services with that one changed, if one is named
abbrev pub with_named : EditSdtConf → Option ℕ → List ItemHolding → Option (List ItemHolding)
with_named conf None services = Some services
with_named conf (Some id) services = with_service conf id services

-- an SDT with these services and its version after the edit
abbrev pub sdt_with : EditSdtConf → TableHolding → List ItemHolding → TableHolding
sdt_with conf table services = record {
  head = record table.head { version = edited_version conf.new_version conf.increment_version table.head.version };
  body = record table.body { items = services };
}

-- an SDT after the edit; none if a descriptor would exceed 255 bytes
abbrev pub edited_sdt : EditSdtConf → TableHolding → Option TableHolding
edited_sdt conf table =
    option_map (sdt_with conf table) (with_named conf conf.service (without_services conf.remove_service table.body.items))
