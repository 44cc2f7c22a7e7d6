-- What `eit` makes of a short_event_descriptor.
-- ETSI EN 300 468, 6.2.37: a language, the name of an event, and a text about it. This project's own rule: the descriptor has
-- the name and the text that are given, and never becomes longer than it was: first its text is cut, then its name, at a
-- character's end. One that is not of the standard's grammar stays.
use Rattle.std.specs.Prelude.{ℕ, ◌+◌, ◌-◌, ◌||◌, List, [], ◌∷◌, length, nat_eq, nat_le, Bool, is_some, Option, Some, None, map, unwrap_or, if◌then◌else◌}
use Rattle.ts_bits.specs.TaggedBody.{TaggedBody}
use Rattle.ts_fields.specs.Bodies.{Holding}
use Rattle.ts_fields.specs.Layout.{Held, bytes}
use Rattle.ts_fields.specs.Texts.{text_bytes}
use Rattle.ts_pages.specs.DvbPages.{short_event}
use Rattle.ts_descr.specs.Descriptors.{Typed, fields_alone, read_typed}
use Rattle.ts_descr_dvb.specs.DvbDescrs.{dvb_pages}
use Rattle.plug_psi.specs.NumbersHeld.{bytes_at}
use Rattle.plug_psi.specs.WrittenDescriptor.{written}
use Rattle.plug_eit.specs.TextCut.{cut_text}
use Rattle.plug_eit.specs.declared.eit_conf.EitConf.{EitConf}

-- the bytes of a text that is given, or else those that the descriptor has
abbrev pub text_or : Option (List ℕ) → List ℕ → List ℕ
text_or None held = held
text_or (Some text) held = text_bytes text

-- the name and the text of an event
pub record Texts : Type 0 where
  pub name : List ℕ
  pub text : List ℕ

-- Both in the room: the text has what the name leaves, and goes where the name alone is too long.
abbrev pub fitted : ℕ → List ℕ → List ℕ → Texts
fitted room name text =
    if nat_le (length name) room then record { name = name; text = cut_text (room - length name) text }
    else record { name = cut_text room name; text = [] }

-- what a descriptor holds with these texts
abbrev pub holding_with : List Held → Texts → Holding
holding_with values texts = fields_alone (bytes (bytes_at values 0) ∷ bytes texts.name ∷ bytes texts.text ∷ [])

-- what a short_event_descriptor holds after the edit, in the room of the name and the text that it had
abbrev pub changed_holding : EitConf → List Held → Holding
changed_holding conf values = holding_with values (fitted
    (length (bytes_at values 1) + length (bytes_at values 2))
    (text_or conf.name (bytes_at values 1))
    (text_or conf.text (bytes_at values 2)))

-- what a descriptor holds as a short_event_descriptor; none if it is not one
abbrev pub short_event_values : Option Typed → Option (List Held)
short_event_values None = None
short_event_values (Some typed) = if nat_eq typed.tag short_event.tag then Some typed.holding.head else None

-- a descriptor after the edit, by what it holds as a short_event_descriptor
abbrev pub changed_by : EitConf → TaggedBody → Option (List Held) → TaggedBody
changed_by conf d None = d
changed_by conf d (Some values) = unwrap_or (written short_event (changed_holding conf values)) d

-- a descriptor after the edit
abbrev pub changed_descriptor : EitConf → TaggedBody → TaggedBody
changed_descriptor conf d = changed_by conf d (short_event_values (read_typed dvb_pages d))

-- a name or a text is given
abbrev pub changes_texts : EitConf → Bool
changes_texts conf = is_some conf.name || is_some conf.text

-- the descriptors of an event after the edit
abbrev pub changed_descriptors : EitConf → List TaggedBody → List TaggedBody
changed_descriptors conf descriptors =
    if changes_texts conf then map (changed_descriptor conf) descriptors else descriptors
