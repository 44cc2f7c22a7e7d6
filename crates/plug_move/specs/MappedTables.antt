-- Tables whose PIDs are mapped.
-- ISO/IEC 13818-1, 2.4.4.3 to 2.4.4.9: a PAT names the network PID and the PIDs of PMTs, a PMT names PCR_PID and
-- elementary_PIDs; 2.6.16: a CA_descriptor, of a CAT, a program or a component, names the CA_PID. Which tables are
-- edited is this project's own rule: the current PATs on PID 0, the current CATs on PID 1 and the current PMTs on any
-- other PID, if they read. All other tables, and those whose edit has no sections, are carried as they are.
use Rattle.std.specs.Prelude.{ℕ, List, [], ◌∷◌, map, nat_eq, Option, Some, None, unwrap_or, if◌then◌else◌}
use Rattle.ts_bits.specs.TaggedBody.{TaggedBody}
use Rattle.ts_fields.specs.Bodies.{Holding}
use Rattle.ts_fields.specs.Layout.{number, bytes}
use Rattle.ts_pages.specs.MpegPages.{ca}
use Rattle.ts_descr.specs.Descriptors.{Typed, fields_alone, read_typed}
use Rattle.ts_descr_mpeg.specs.MpegDescrs.{mpeg_pages}
use Rattle.ts_table_rows.specs.RunReading.{read_run}
use Rattle.ts_table_rows.specs.TableValues.{ItemHolding, TableHolding}
use Rattle.ts_psi.specs.PsiPages.{cat_page, pat_page, pmt_page}
use Rattle.ts_psi.specs.CatTables.{read_cat}
use Rattle.ts_psi.specs.PatTables.{read_pat}
use Rattle.plug_psi.specs.CurrentTables.{current_in}
use Rattle.plug_psi.specs.Edits.{Change}
use Rattle.plug_psi.specs.NumbersHeld.{bytes_at, number_at}
use Rattle.plug_psi.specs.TableChange.{changed_current}
use Rattle.plug_psi.specs.WrittenDescriptor.{written}
use Rattle.plug_move.specs.Targets.{mapped}

-- what a CA descriptor holds, with its CA_PID mapped: the CA system and the private bytes stay
abbrev pub mapped_holding : List (ℕ × ℕ) → Holding → Holding
mapped_holding pairs holding = fields_alone (
    number (number_at holding.head 0)
    ∷ number (mapped pairs (number_at holding.head 1))
    ∷ bytes (bytes_at holding.head 2)
    ∷ [])

-- a descriptor that was read as this, or as nothing: a CA descriptor is written with its CA_PID mapped, which does not
-- change its length, and any other stays
abbrev pub mapped_typed : List (ℕ × ℕ) → TaggedBody → Option Typed → TaggedBody
mapped_typed pairs descriptor None = descriptor
mapped_typed pairs descriptor (Some typed) =
    if nat_eq typed.tag ca.tag then unwrap_or (written ca (mapped_holding pairs typed.holding)) descriptor else descriptor

-- a descriptor, with its CA_PID mapped if it is a CA descriptor
abbrev pub mapped_descriptor : List (ℕ × ℕ) → TaggedBody → TaggedBody
mapped_descriptor pairs descriptor = mapped_typed pairs descriptor (read_typed mpeg_pages descriptor)

-- the same for each of some descriptors
abbrev pub mapped_descriptors : List (ℕ × ℕ) → List TaggedBody → List TaggedBody
mapped_descriptors pairs descriptors = map (mapped_descriptor pairs) descriptors

-- an item of two numbers, of which the second is a PID, with its PIDs mapped: an entry of a PAT, or a component of a PMT
abbrev pub mapped_item : List (ℕ × ℕ) → ItemHolding → ItemHolding
mapped_item pairs item = record {
  values = number (number_at item.values 0) ∷ number (mapped pairs (number_at item.values 1)) ∷ [];
  descriptors = mapped_descriptors pairs item.descriptors;
}

-- the same for each of some items
abbrev pub mapped_items : List (ℕ × ℕ) → List ItemHolding → List ItemHolding
mapped_items pairs items = map (mapped_item pairs) items

-- a PAT with the PID of each entry mapped, that of the network too
abbrev pub mapped_pat : List (ℕ × ℕ) → TableHolding → TableHolding
mapped_pat pairs table = record table { body = record table.body { items = mapped_items pairs table.body.items } }

-- a CAT with its CA_PIDs mapped
abbrev pub mapped_cat : List (ℕ × ℕ) → TableHolding → TableHolding
mapped_cat pairs table =
    record table { body = record table.body { descriptors = mapped_descriptors pairs table.body.descriptors } }

-- a PMT with its PIDs mapped: PCR_PID, the CA_PIDs of the program, and the PID and the CA_PIDs of each component
abbrev pub mapped_pmt : List (ℕ × ℕ) → TableHolding → TableHolding
mapped_pmt pairs table = record table {
  body = record {
    values = number (mapped pairs (number_at table.body.values 0)) ∷ [];
    descriptors = mapped_descriptors pairs table.body.descriptors;
    items = mapped_items pairs table.body.items;
  };
}

-- what the edit makes of a run on PID 0, on PID 1, and on the PID of a PMT
abbrev pub change_pat : List (ℕ × ℕ) → List (List ℕ) → Change
change_pat pairs run = changed_current pat_page (λ table. Some (mapped_pat pairs table)) (current_in (read_pat run))

abbrev pub change_cat : List (ℕ × ℕ) → List (List ℕ) → Change
change_cat pairs run = changed_current cat_page (λ table. Some (mapped_cat pairs table)) (current_in (read_cat run))

abbrev pub change_pmt : List (ℕ × ℕ) → List (List ℕ) → Change
change_pmt pairs run = changed_current pmt_page (λ table. Some (mapped_pmt pairs table)) (current_in (read_run pmt_page run))

-- what the edit makes of a run on a PID
abbrev pub change_on : List (ℕ × ℕ) → ℕ → List (List ℕ) → Change
change_on pairs pid run =
    if nat_eq pid 0 then change_pat pairs run
    else if nat_eq pid 1 then change_cat pairs run
    else change_pmt pairs run
