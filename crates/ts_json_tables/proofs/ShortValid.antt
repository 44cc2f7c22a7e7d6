-- Tables of the short form that are read by their fields are valid, and have bytes below 256.
use Rattle.std.proofs.Common.{◌≡◌, ℕ, ◌<◌, Bool, true, false, List, refl, arith}
use Rattle.std.specs.Prelude.{Option, Some, None, Ok, bytes_eq, if◌then◌else◌}
use Rattle.serde_json.specs.Data.{Members}
use Rattle.ts_fields.specs.Bodies.{Page, spell_page}
use Rattle.ts_jtree.specs.declared.fault.JsonKind.TheVariants.{UnknownKey}
use Rattle.ts_jtree.specs.Elements.{name_key}
use Rattle.ts_jtree.specs.Faults.{or_refuse, ◌>>=◌}
use Rattle.ts_json_descr.specs.DescrReading.{read_holding}
use Rattle.ts_table_rows.specs.BodySpelling.{bytes_of}
use Rattle.ts_json_tables.specs.HeldTables.{TableValue}
use Rattle.ts_json_tables.specs.ShortPages.{short_page_named}
use Rattle.ts_json_tables.specs.TableElements.{tot_name}
use Rattle.ts_json_tables.specs.TableReading.{read_paged, read_short_named, read_tot, read_tot_element, sized_short, sized_tot}
use Rattle.ts_json_tables.specs.TimeOffsets.{OffsetHolding, offset_payload, tot_id}
use Rattle.ts_json_tables.specs.ValidTables.{IsOfBytes, IsTable}
use Rattle.ts_json_tables.proofs.MadeBodies.{Spelled, bytes_length}
use Rattle.ts_json_tables.proofs.ShortLemmas.{payload_are_bytes, sized_bytes, sized_valid, small_tag}
use Rattle.ts_json_tables.proofs.StepLemmas.{then_ok}

-- what a table of this name is read from: a TOT, or the bytes of a page
pub short_by : (P : TableValue → Type 0) (name : List ℕ) (ms : Members) (t : TableValue) → read_short_named name ms ≡ Ok t
    → ((x : OffsetHolding) → sized_tot x ≡ Ok t → P t)
    → ((p : Page) (bits : List Bool) → p.tag < 255 → sized_short p.tag (bytes_of bits) ≡ Ok t → P t) → P t
unfolding read_paged read_tot
short_by P name ms t is tot paged = go (bytes_eq name tot_name) is
  where
    by_page : (o : Option Page) → short_page_named name ≡ o → (or_refuse o name_key UnknownKey >>= λ p. read_paged p ms) ≡ Ok t → P t
    by_page None at read = cc
    by_page (Some p) at read =
        then_ok (read_holding p ms) _ t read (λ h a1 b1. paged p (spell_page p h) (small_tag name p at) b1)

    go : (b : Bool) → (if b then read_tot ms else (or_refuse (short_page_named name) name_key UnknownKey >>= λ p. read_paged p ms)) ≡ Ok t → P t
    go true read = then_ok (read_tot_element ms) _ t read (λ x was later. tot x later)
    go false read = by_page (short_page_named name) refl read

pub short_named_valid : (name : List ℕ) (ms : Members) (t : TableValue) → read_short_named name ms ≡ Ok t → IsTable t
short_named_valid name ms t is =
    short_by IsTable name ms t is (λ x read. sized_valid tot_id (offset_payload x) t (omega arith) read)
    (λ p bits small read. sized_valid p.tag (bytes_of bits) t small read)

pub short_named_bytes : Spelled → (name : List ℕ) (ms : Members) (t : TableValue) → read_short_named name ms ≡ Ok t → IsOfBytes t
short_named_bytes law name ms t is =
    short_by IsOfBytes name ms t is (λ x read. sized_bytes tot_id (offset_payload x) t (payload_are_bytes law x) read)
    (λ p bits small read. sized_bytes p.tag (bytes_of bits) t (bytes_length law bits).1 read)
