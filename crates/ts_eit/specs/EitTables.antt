-- An EIT as a table.
-- ETSI EN 300 468, 5.2.4.
use Rattle.std.specs.Prelude.{[], ◌∷◌, map, Some}
use Rattle.ts_fields.specs.Layout.{number}
use Rattle.ts_table_rows.specs.RowWords.{flag}
use Rattle.ts_table_rows.specs.TableValues.{ItemHolding, TableHolding}
use Rattle.ts_eit.specs.EventTimes.{start_bits, time_bits}
use Rattle.ts_eit.specs.declared.events.Event.{Event}
use Rattle.ts_eit.specs.declared.eit.Eit.{Eit}

-- an event as an item
abbrev pub event_item : Event → ItemHolding
event_item e = record {
  values =
      number e.event_id ∷ number (start_bits e.start) ∷ number (time_bits e.duration) ∷ number e.running
      ∷ flag e.free_ca ∷ [];
  descriptors = e.descriptors;
}

-- an EIT as a table
abbrev pub eit_held : Eit → TableHolding
eit_held e = record {
  head = record {
    table_id = e.table_id;
    extension = e.service_id;
    version = e.version;
    current = e.current;
    numbers = Some (e.number, e.last);
  };
  body = record {
    values = number e.stream_id ∷ number e.original_id ∷ number e.segment_last ∷ number e.last_table_id ∷ [];
    descriptors = [];
    items = map event_item e.events;
  };
}
