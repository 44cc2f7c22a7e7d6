-- Events of the code, as those of a table.
use Rattle.std.proofs.Common.{◌≡◌, List, [], ◌∷◌, map, refl, ap}
use Rattle.std.specs.Prelude.{◌||◌}
use Rattle.std.specs.List.{list_any}
use Rattle.ts_eit.specs.EitTables.{event_item}
use Rattle.ts_eit.specs.declared.events.Event.{Event}
use Rattle.plug_eit.specs.EventChange.{is_asked, is_event}
use Rattle.plug_eit.specs.declared.eit_conf.EitConf.{EitConf}

-- one of them is asked for
pub any_event : (conf : EitConf) (events : List Event) → list_any (λ (event : Event). is_asked conf.event event.event_id) events ≡ list_any (is_event conf) (map event_item events)
any_event conf [] = refl
any_event conf (event ∷ events) = ap (λ b. is_asked conf.event event.event_id || b) (any_event conf events)
