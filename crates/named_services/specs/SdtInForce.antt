-- The SDT in force, and its description of a service. ETSI EN 300 468, 5.1.3, 5.2.3 and 6.2.33: the SDT of the actual
-- transport stream is on PID 17 with table_id 0x42, and the service_descriptor, tag 0x48, has the type, the provider
-- and the name of a service. Which table counts is this project's own rule: the same as for a PAT, and of the stream
-- that the PAT names before any other, since a multiplex may carry the SDT of another one with this table_id.
use Rattle.std.specs.Prelude.{ℕ, ◌==◌, Bool, false, List, [], ◌∷◌, Option, None, Some, if◌then◌else◌}
use Rattle.std.specs.Option.{option_or}
use Rattle.ts_bits.specs.TaggedBody.{TaggedBody}
use Rattle.ts_demux.specs.TablesOn.{tables_on}
use Rattle.ts_table_rows.specs.BodyReading.{first_number}
use Rattle.ts_table_rows.specs.RunReading.{read_run}
use Rattle.ts_table_rows.specs.TableValues.{ItemHolding, TableHolding}
use Rattle.ts_table_pages.specs.SiPages.{sdt_page}
use Rattle.plug_psi.specs.CurrentTables.{current_in}
use Rattle.plug_psi.specs.InForce.{pat_of}
use Rattle.plug_psi.specs.LastFound.{last_found}
use Rattle.service_items.specs.StreamTables.{stream_of}

-- an SDT, if it is of the actual transport stream
abbrev pub of_actual : Option TableHolding → Option TableHolding
of_actual None = None
of_actual (Some sdt) = if sdt.head.table_id == 0x42 then Some sdt else None

-- the SDT of the actual transport stream that a table is, if it is a current one
abbrev pub current_sdt : List (List ℕ) → Option TableHolding
current_sdt run = of_actual (current_in (read_run sdt_page run))

-- a table, if it has this table_id_extension
abbrev pub of_extension : ℕ → Option TableHolding → Option TableHolding
of_extension id None = None
of_extension id (Some table) = if table.head.extension == id then Some table else None

-- the current SDT of the actual transport stream that a table is, if it has this transport_stream_id
abbrev pub current_sdt_of : ℕ → List (List ℕ) → Option TableHolding
current_sdt_of id run = of_extension id (current_sdt run)

-- the last complete table on PID 17 that is a current SDT of the actual transport stream
unfoldable pub last_sdt : List (List ℕ) → Option TableHolding
last_sdt packets = last_found current_sdt (tables_on 17 packets)

-- the last one with this transport_stream_id
unfoldable pub sdt_with : ℕ → List (List ℕ) → Option TableHolding
sdt_with id packets = last_found (current_sdt_of id) (tables_on 17 packets)

-- the last one with this transport_stream_id, and where there is none, or no such number, the last one of any
abbrev pub sdt_for : Option ℕ → List (List ℕ) → Option TableHolding
sdt_for None packets = last_sdt packets
sdt_for (Some id) packets = option_or (sdt_with id packets) (last_sdt packets)

-- The SDT in force after some packets of any PID: that of the transport stream of the PAT in force, and where there is
-- none the last one.
unfoldable pub sdt_of : List (List ℕ) → Option TableHolding
sdt_of packets = sdt_for (stream_of (pat_of packets)) packets

-- a field has this number
abbrev pub is_number : ℕ → Option ℕ → Bool
is_number n None = false
is_number n (Some m) = m == n

-- the descriptors of the first item with this number
abbrev pub described_in : ℕ → List ItemHolding → List TaggedBody
described_in id [] = []
described_in id (x ∷ xs) = if is_number id (first_number x.values) then x.descriptors else described_in id xs

-- the body of the first descriptor with a tag
abbrev pub body_with : ℕ → List TaggedBody → Option (List ℕ)
body_with tag [] = None
body_with tag (d ∷ ds) = if d.tag == tag then Some d.body else body_with tag ds

-- the items of a table, if there is one
abbrev pub items_in : Option TableHolding → List ItemHolding
items_in None = []
items_in (Some table) = table.body.items

-- the service_descriptor of a service in an SDT
abbrev pub service_body : Option TableHolding → ℕ → Option (List ℕ)
service_body sdt id = body_with 0x48 (described_in id (items_in sdt))
