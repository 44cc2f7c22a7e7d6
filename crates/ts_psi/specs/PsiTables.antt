-- A PMT as a table.
-- ISO/IEC 13818-1, 2.4.4.3 to 2.4.4.9.
use Rattle.std.specs.Prelude.{[], ◌∷◌, map, None}
use Rattle.ts_fields.specs.Layout.{number}
use Rattle.ts_table_rows.specs.TableValues.{ItemHolding, TableHolding}
use Rattle.ts_psi.specs.declared.pmt.Component.{Component}
use Rattle.ts_psi.specs.declared.pmt.Pmt.{Pmt}

-- a component as an item
abbrev pub component_item : Component → ItemHolding
component_item c = record { values = number c.stream_type ∷ number c.pid ∷ []; descriptors = c.descriptors }

-- a PMT as a table
abbrev pub pmt_held : Pmt → TableHolding
pmt_held p = record {
  head = record { table_id = 0x02; extension = p.service_id; version = p.version; current = p.current; numbers = None };
  body = record { values = number p.pcr_pid ∷ []; descriptors = p.descriptors; items = map component_item p.components };
}
