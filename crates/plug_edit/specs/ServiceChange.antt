-- What the edit of an SDT makes of one service.
-- ETSI EN 300 468, 5.2.3 and 6.2.33: a service has flags, a running_status, free_CA_mode and descriptors, of which the
-- service_descriptor has its type, its provider and its name. Which one is changed is this project's own rule: the first
-- service_descriptor that is of the standard's grammar, or else a new one, which is added last.
use Rattle.std.specs.Prelude.{ℕ, ◌||◌, List, [], ◌∷◌, Bool, find, is_some, nat_eq, Option, Some, None, option_map, unwrap_or, if◌then◌else◌}
use Rattle.ts_bits.specs.TaggedBody.{TaggedBody}
use Rattle.ts_fields.specs.Bodies.{Holding}
use Rattle.ts_fields.specs.Layout.{Held, number, bytes}
use Rattle.ts_fields.specs.Texts.{text_bytes}
use Rattle.ts_pages.specs.DvbPages.{service}
use Rattle.ts_descr.specs.Descriptors.{Typed, fields_alone, read_typed}
use Rattle.ts_descr_dvb.specs.DvbDescrs.{dvb_pages}
use Rattle.ts_table_rows.specs.TableValues.{ItemHolding}
use Rattle.plug_edit.specs.Changing.{changed_first}
use Rattle.plug_psi.specs.NumbersHeld.{number_at, bytes_at}
use Rattle.plug_psi.specs.WrittenDescriptor.{written}
use Rattle.plug_edit.specs.declared.sdt_conf.EditSdtConf.{EditSdtConf}

-- the bytes of a text that is given, or else those that the descriptor has
abbrev pub text_or : Option (List ℕ) → List ℕ → List ℕ
text_or None held = held
text_or (Some text) held = text_bytes text

-- what a service_descriptor holds after the edit
abbrev pub changed_holding : EditSdtConf → List Held → Holding
changed_holding conf values = fields_alone (
    number (unwrap_or conf.service_type (number_at values 0))
    ∷ bytes (text_or conf.provider (bytes_at values 1))
    ∷ bytes (text_or conf.name (bytes_at values 2))
    ∷ [])

-- what a new service_descriptor holds before the edit: type 1 and empty texts
abbrev pub new_values : List Held
new_values = number 1 ∷ bytes [] ∷ bytes [] ∷ []

-- the descriptor after the edit; none if its body would exceed 255 bytes
abbrev pub changed_descriptor : EditSdtConf → List Held → Option TaggedBody
changed_descriptor conf values = written service (changed_holding conf values)

-- what a descriptor holds as a service_descriptor; none if it is not one
abbrev pub service_values : Option Typed → Option (List Held)
service_values None = None
service_values (Some typed) = if nat_eq typed.tag service.tag then Some typed.holding.head else None

-- a descriptor is a service_descriptor
abbrev pub is_service_descriptor : TaggedBody → Bool
is_service_descriptor d = is_some (service_values (read_typed dvb_pages d))

-- what a descriptor holds as a service_descriptor, or what a new one holds
abbrev pub values_in : Option TaggedBody → List Held
values_in None = new_values
values_in (Some d) = unwrap_or (service_values (read_typed dvb_pages d)) new_values

-- the descriptors with one that replaces the first service_descriptor, or comes last
abbrev pub with_descriptor : List TaggedBody → TaggedBody → List TaggedBody
with_descriptor descriptors changed = changed_first is_service_descriptor (λ _. changed) changed descriptors

-- the first service_descriptor changed, or a new one last; none if it would exceed 255 bytes
abbrev pub with_service_descriptor : EditSdtConf → List TaggedBody → Option (List TaggedBody)
with_service_descriptor conf descriptors =
    option_map (with_descriptor descriptors) (changed_descriptor conf (values_in (find is_service_descriptor descriptors)))

-- a name, a provider or a type is given
abbrev pub changes_descriptor : EditSdtConf → Bool
changes_descriptor conf = is_some conf.name || (is_some conf.provider || is_some conf.service_type)

-- the descriptors of the service after the edit
abbrev pub changed_descriptors : EditSdtConf → List TaggedBody → Option (List TaggedBody)
changed_descriptors conf descriptors =
    if changes_descriptor conf then with_service_descriptor conf descriptors else Some descriptors

-- the fields of the service after the edit: service_id and the two flags stay
abbrev pub changed_values : EditSdtConf → List Held → List Held
changed_values conf values =
    number (number_at values 0)
    ∷ number (number_at values 1)
    ∷ number (number_at values 2)
    ∷ number (unwrap_or conf.running_status (number_at values 3))
    ∷ number (unwrap_or conf.free_ca_mode (number_at values 4))
    ∷ []

-- a service with its fields after the edit and these descriptors
abbrev pub service_with : EditSdtConf → List Held → List TaggedBody → ItemHolding
service_with conf values descriptors = record { values = changed_values conf values; descriptors = descriptors }

-- a service after the edit; none if a descriptor would exceed 255 bytes
abbrev pub changed_service : EditSdtConf → ItemHolding → Option ItemHolding
changed_service conf item = option_map (service_with conf item.values) (changed_descriptors conf item.descriptors)
