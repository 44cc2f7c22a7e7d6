-- What `eit` makes of the events of a section.
-- ETSI EN 300 468, 5.2.4: an event has event_id, start_time, duration, running_status, free_CA_mode and descriptors. The edit
-- is this project's own rule.
use Rattle.std.specs.Prelude.{ℕ, List, [], ◌∷◌, Bool, true, filter, map, nat_eq, not, Option, Some, None, unwrap_or, if◌then◌else◌}
use Rattle.ts_fields.specs.Layout.{Held, number}
use Rattle.ts_table_rows.specs.TableValues.{ItemHolding}
use Rattle.plug_psi.specs.NumbersHeld.{number_at}
use Rattle.plug_eit.specs.EventStart.{shifted_start}
use Rattle.plug_eit.specs.ShortEventChange.{changed_descriptors}
use Rattle.plug_eit.specs.declared.eit_conf.EitConf.{EitConf}

-- an event_id is the one that is asked for; each is where none is
abbrev pub is_asked : Option ℕ → ℕ → Bool
is_asked None id = true
is_asked (Some asked) id = nat_eq id asked

-- the same of an event of a table
abbrev pub is_event : EitConf → ItemHolding → Bool
is_event conf event = is_asked conf.event (number_at event.values 0)

-- the fields of an event after the edit: event_id and duration stay
abbrev pub changed_values : EitConf → List Held → List Held
changed_values conf values =
    number (number_at values 0)
    ∷ number (shifted_start conf.shift (number_at values 1))
    ∷ number (number_at values 2)
    ∷ number (unwrap_or conf.running_status (number_at values 3))
    ∷ number (unwrap_or conf.free_ca_mode (number_at values 4))
    ∷ []

-- an event after the edit
abbrev pub changed_event : EitConf → ItemHolding → ItemHolding
changed_event conf event =
    if is_event conf event
    then record { values = changed_values conf event.values; descriptors = changed_descriptors conf event.descriptors }
    else event

-- the events of a section after the edit
abbrev pub changed_events : EitConf → List ItemHolding → List ItemHolding
changed_events conf events =
    if conf.remove then filter (λ event. not (is_event conf event)) events else map (changed_event conf) events
