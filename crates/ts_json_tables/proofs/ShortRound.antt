-- Tables of the short form that are shown by their fields are read again.
use Rattle.std.proofs.Common.{◌≡◌, Bool, true, false, refl}
use Rattle.std.specs.Prelude.{Option, Some, None, Ok, nat_eq, if◌then◌else◌}
use Rattle.std.proofs.lemmas.Bool.{eqb-true}
use Rattle.serde_json.specs.Data.{array}
use Rattle.serde_json.specs.View.{items_of}
use Rattle.ts_fields.specs.Bits.{bits_of}
use Rattle.ts_fields.specs.Bodies.{Holding, Page, read_page, spell_page}
use Rattle.ts_fields.specs.Fitting.{are_bytes}
use Rattle.ts_jtree.specs.Elements.{nodes_of}
use Rattle.ts_json_descr.specs.DescrElements.{body_shown, items_shown}
use Rattle.ts_json_descr.proofs.PageLemmas.{plain_within}
use Rattle.ts_json_tables.specs.HeldTables.{ShortHolding, short}
use Rattle.ts_json_tables.specs.ShortPages.{short_page_of}
use Rattle.ts_json_tables.specs.TableElements.{descrs_shown, generic_shown, paged_shown, read_shown, short_shown, tot_name, tot_or_bytes, tot_shown}
use Rattle.ts_json_tables.specs.TableReading.{read_descr, read_paged, read_tot, read_tot_element, table_read}
use Rattle.ts_json_tables.specs.TimeOffsets.{OffsetHolding, offset_payload, tot_id, tot_of, tot_rows}
use Rattle.ts_json_tables.specs.ValidTables.{is_short}
use Rattle.ts_json_tables.proofs.AgainLemmas.{Laws, each_read}
use Rattle.ts_json_tables.proofs.RoundLemmas.{descrs_again}
use Rattle.ts_json_tables.proofs.ShortLemmas.{offset_read, short_facts, sized_again, tot_is}

page_again : Laws → (s : ShortHolding) (p : Page) (h : Holding) → is_short s ≡ true → are_bytes s.payload ≡ true → s.own ≡ true
    → short_page_of s.table_id ≡ Some p → read_page p (bits_of s.payload) ≡ Some h → table_read (body_shown p h) ≡ Ok (short s)
unfolding table_read read_paged
page_again laws s p h is small own found read =
    let facts = short_facts s.table_id p found in
    let took = laws.written p (bits_of s.payload) h facts.exact read in
    let payload = laws.bytes s.payload (spell_page p h) small took.0 in
    rw (
      laws.name p.head p.name (items_shown p.items h.items) h.head facts.shows,
      facts.no_short,
      facts.no_long,
      facts.no_laid,
      facts.no_tot,
      facts.named,
      laws.holding p h facts.shows facts.items (plain_within p.head h.head facts.bare) took.1,
    ) (sized_again s p.tag _ is own facts.tagged payload)

tot_again : Laws → (s : ShortHolding) (t : OffsetHolding) → is_short s ≡ true → s.own ≡ true → s.table_id ≡ tot_id
    → tot_of s.payload ≡ Some t → table_read (tot_shown t) ≡ Ok (short s)
unfolding table_read read_tot read_tot_element nodes_of
tot_again laws s t is own id found =
    let told = tot_is s.payload t found in
    let holds = offset_read laws.offsets (bits_of s.payload) t told.0 in
    let nodes = Some (array (items_of (descrs_shown t.descriptors))) in
    rw (
      laws.name tot_rows tot_name nodes t.values refl,
      laws.keys tot_rows tot_name nodes t.values refl,
      laws.values tot_rows tot_name nodes t.values refl holds.fit (plain_within tot_rows t.values refl),
      laws.children tot_rows tot_name nodes t.values refl,
      each_read read_descr 0 (descrs_shown t.descriptors) t.descriptors (descrs_again laws t.descriptors holds.descriptors),
    ) (sized_again s tot_id (offset_payload t) is own id told.1)

-- every section of the short form that is shown is read again, where it is when it is given by its bytes
pub short_read_again : Laws → (s : ShortHolding) → is_short s ≡ true → are_bytes s.payload ≡ true
    → table_read (generic_shown s) ≡ Ok (short s) → table_read (short_shown s) ≡ Ok (short s)
short_read_again laws s is small generic = go s.own refl (nat_eq s.table_id tot_id) refl
  where
    by_tot : s.own ≡ true → s.table_id ≡ tot_id → (o : Option OffsetHolding) → tot_of s.payload ≡ o
        → table_read (tot_or_bytes o s) ≡ Ok (short s)
    by_tot own id None at = generic
    by_tot own id (Some t) at = tot_again laws s t is own id at

    by_reading : s.own ≡ true → (p : Page) → short_page_of s.table_id ≡ Some p → (o : Option Holding)
        → read_page p (bits_of s.payload) ≡ o → table_read (read_shown p o s) ≡ Ok (short s)
    by_reading own p found None at = generic
    by_reading own p found (Some h) at = page_again laws s p h is small own found at

    by_page : s.own ≡ true → (o : Option Page) → short_page_of s.table_id ≡ o → table_read (paged_shown o s) ≡ Ok (short s)
    by_page own None at = generic
    by_page own (Some p) at = by_reading own p at (read_page p (bits_of s.payload)) refl

    go : (a : Bool) → s.own ≡ a → (b : Bool) → nat_eq s.table_id tot_id ≡ b
        → table_read (if a then (if b then tot_or_bytes (tot_of s.payload) s else paged_shown (short_page_of s.table_id) s) else generic_shown s) ≡ Ok (short s)
    go true own true at = by_tot own (eqb-true s.table_id tot_id at) (tot_of s.payload) refl
    go true own false at = by_page own (short_page_of s.table_id) refl
    go false own b at = generic
