-- NIT, BAT and SDT as tables.
-- ETSI EN 300 468, 5.2.1 to 5.2.3.
use Rattle.std.specs.Prelude.{ℕ, List, [], ◌∷◌, map, Bool, true, false, None}
use Rattle.ts_bits.specs.TaggedBody.{TaggedBody}
use Rattle.ts_fields.specs.Layout.{number}
use Rattle.ts_table_rows.specs.RowWords.{flag}
use Rattle.ts_table_rows.specs.TableValues.{ItemHolding, BodyHolding, TableHolding}
use Rattle.ts_si.specs.declared.streams.NitStream.{NitStream}
use Rattle.ts_si.specs.declared.services.SdtService.{SdtService}
use Rattle.ts_si.specs.declared.nit.Nit.{Nit}
use Rattle.ts_si.specs.declared.bat.Bat.{Bat}
use Rattle.ts_si.specs.declared.sdt.Sdt.{Sdt}

-- the table_id of a NIT: of the actual network, or of another
abbrev pub nit_id : Bool → ℕ
nit_id true = 0x40
nit_id false = 0x41

-- the table_id of an SDT: of the actual transport stream, or of another
abbrev pub sdt_id : Bool → ℕ
sdt_id true = 0x42
sdt_id false = 0x46

-- a transport stream as an item
abbrev pub stream_item : NitStream → ItemHolding
stream_item s = record { values = number s.stream_id ∷ number s.original_id ∷ []; descriptors = s.descriptors }

-- the body of a NIT or a BAT: its own descriptors, and the transport streams
abbrev pub streams_held : List TaggedBody → List NitStream → BodyHolding
streams_held descriptors streams = record { values = []; descriptors = descriptors; items = map stream_item streams }

-- a NIT as a table
abbrev pub nit_held : Nit → TableHolding
nit_held n = record {
  head = record {
    table_id = nit_id n.actual;
    extension = n.network_id;
    version = n.version;
    current = n.current;
    numbers = None;
  };
  body = streams_held n.descriptors n.streams;
}

-- a BAT as a table
abbrev pub bat_held : Bat → TableHolding
bat_held b = record {
  head = record {
    table_id = 0x4A;
    extension = b.bouquet_id;
    version = b.version;
    current = b.current;
    numbers = None;
  };
  body = streams_held b.descriptors b.streams;
}

-- a service as an item
abbrev pub service_item : SdtService → ItemHolding
service_item s = record {
  values =
      number s.service_id ∷ flag s.schedule ∷ flag s.present ∷ number s.running ∷ flag s.free_ca ∷ [];
  descriptors = s.descriptors;
}

-- an SDT as a table
abbrev pub sdt_held : Sdt → TableHolding
sdt_held s = record {
  head = record {
    table_id = sdt_id s.actual;
    extension = s.stream_id;
    version = s.version;
    current = s.current;
    numbers = None;
  };
  body = record { values = number s.original_id ∷ []; descriptors = []; items = map service_item s.services };
}
