-- Valid settings of `eit`.
-- ETSI EN 300 468, 5.2.4: a service_id and an event_id have 16 bits, a running_status three, free_CA_mode one. This project's own
-- rule: a service is given by its number or by a name, something is changed or removed, and not both.
use Rattle.std.specs.Prelude.{◌≤◌, ◌≤ℤ◌, ◌&&◌, ◌||◌, Bool, IsTrue, is_some, not}
use Rattle.std.specs.Option.{ForSome}
use Rattle.plug_time.specs.declared.numbers.TheConstants.{LEAST_SHIFT, MOST_SHIFT}
use Rattle.named_services.specs.ServiceWords.{SaysService}
use Rattle.plug_eit.specs.declared.eit_conf.EitConf.{EitConf}
use Rattle.plug_eit.specs.declared.numbers.TheConstants.{LAST_ID, LAST_MODE, LAST_STATUS}

-- something of an event is changed
abbrev pub changes_events : EitConf → Bool
changes_events c =
    is_some c.name || (is_some c.text || (is_some c.shift || (is_some c.running_status || is_some c.free_ca_mode)))

-- events are not both changed and removed
abbrev pub eit_together : EitConf → Bool
eit_together c = not (c.remove && changes_events c)

-- of what is done with events each number is in its range, and no two options exclude each other
pub record IsValidChange (c : EitConf) : Type 0 where
  pub event : ForSome c.event (λ id. id ≤ LAST_ID)
  pub shift : ForSome c.shift (λ shift. (LEAST_SHIFT ≤ℤ shift) × (shift ≤ℤ MOST_SHIFT))
  pub running : ForSome c.running_status (λ status. status ≤ LAST_STATUS)
  pub scrambled : ForSome c.free_ca_mode (λ mode. mode ≤ LAST_MODE)
  pub together : IsTrue (eit_together c)

-- the word says which service is meant, and what is done with its events is valid
pub record IsValidEit (c : EitConf) : Type 0 where
  pub service : SaysService c.service
  pub change : IsValidChange c
