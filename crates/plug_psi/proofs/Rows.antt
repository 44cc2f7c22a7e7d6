-- Worked rows, computed on the definitions.
use Rattle.std.proofs.Common.{◌≡◌, ℕ, ◌==◌, List, [], ◌∷◌, length, map, None, Some, true, false, refl, nat_lt}
use Rattle.std.specs.Prelude.{Option, if◌then◌else◌}
use Rattle.ts_bit_rows.specs.BitRow.{bit_of, field}
use Rattle.ts_bits.specs.TaggedBody.{TaggedBody}
use Rattle.ts_bits.specs.DescriptorLoop.{descriptors_from}
use Rattle.ts_fields.specs.Bits.{bits, number_of}
use Rattle.ts_fields.specs.Reading.{read_number, read_bytes, read_rest, read_field, read_rows}
use Rattle.ts_fields.specs.Bodies.{read_page, read_after}
use Rattle.ts_descr.specs.Descriptors.{read_typed}
use Rattle.ts_table_rows.specs.BodyReading as table_reading
use Rattle.ts_table_rows.specs.BodyReading.{read_body, read_fields, read_heading, read_last_loop, read_loop}
use Rattle.ts_table_rows.specs.RunReading.{read_run, read_section, read_sections}
use Rattle.ts_table_rows.specs.TableValues.{TableHolding}
use Rattle.ts_demux.specs.TakenWhere.{taken_after, taken_where}
use Rattle.plug_psi.specs.CatInForce.{current_cat}
use Rattle.plug_psi.specs.Contents.{entries_of}
use Rattle.plug_psi.specs.Edits.{away, edited_sections, same}
use Rattle.plug_psi.specs.InForce.{current_pat, current_pmt, services_in}
use Rattle.plug_psi.specs.InUse.{always, edits_on, told_after, told_on}
use Rattle.plug_psi.specs.LastFound.{last_found}
use Rattle.plug_psi.specs.Referred.{is_fixed, named_pids}
use Rattle.plug_psi.specs.ServicePids.{pids_in, pids_of}
use Rattle.plug_psi.proofs.RowTables.{item_of, table_of}

-- 18 00 E1 2C names the system 6144 and the PID 300
abbrev ca_300 : TaggedBody
ca_300 = record { tag = 0x09; body = 0x18 ∷ 0x00 ∷ 0xE1 ∷ 0x2C ∷ [] }

-- 18 00 01 2C has reserved bits that are not ones
abbrev no_ca : TaggedBody
no_ca = record { tag = 0x09; body = 0x18 ∷ 0x00 ∷ 0x01 ∷ 0x2C ∷ [] }

-- the PIDs of a PMT with a CA_descriptor of a component, and one that is none
pids-told : pids_in (table_of 0x02 1 (256 ∷ []) (no_ca ∷ []) (item_of 2 256 [] ∷ item_of 3 257 (ca_300 ∷ []) ∷ []))
    ≡ 256 ∷ 256 ∷ 257 ∷ 300 ∷ []
unfolding bits number_of read_number read_bytes read_rest read_field read_rows read_page read_after read_typed
pids-told = refl

-- without a PCR
pids-no-pcr : pids_in (table_of 0x02 1 (8191 ∷ []) [] (item_of 3 257 [] ∷ [])) ≡ 257 ∷ []
pids-no-pcr = refl

-- the network PID is 16; service 1 on PID 4096 has PIDs 256 and 257, service 2 on PID 4097 has no PMT in force
abbrev pat_row : Option TableHolding
pat_row = Some (table_of 0x00 1 [] [] (item_of 0 16 [] ∷ item_of 1 4096 [] ∷ item_of 2 4097 [] ∷ []))

abbrev pmts_row : ℕ → Option TableHolding
pmts_row service = if service == 1 then Some (table_of 0x02 1 (256 ∷ []) [] (item_of 2 256 [] ∷ item_of 3 257 [] ∷ [])) else None

-- the CAT names PID 300
abbrev cat_row : Option TableHolding
cat_row = Some (table_of 0x01 0xFFFF [] (no_ca ∷ ca_300 ∷ []) [])

named-row : named_pids pat_row pmts_row cat_row ≡ 16 ∷ 4096 ∷ 4097 ∷ 256 ∷ 256 ∷ 257 ∷ 300 ∷ []
unfolding bits number_of read_number read_bytes read_rest read_field read_rows read_page read_after read_typed
named-row = refl

-- a service that the PAT has left is not asked for its PMT; without tables nothing is named
left-row : named_pids (Some (table_of 0x00 1 [] [] (item_of 2 4097 [] ∷ []))) pmts_row None ≡ 4097 ∷ []
left-row = refl

none-row : named_pids None pmts_row None ≡ []
none-row = refl

-- the PIDs that need no table
fixed-row : map is_fixed (0 ∷ 31 ∷ 32 ∷ 8190 ∷ 8191 ∷ []) ≡ true ∷ true ∷ false ∷ false ∷ true ∷ []
fixed-row = refl

-- a CAT of version 4 that is current, with one descriptor
abbrev cat_run : List (List ℕ)
cat_run = (0x01 ∷ 0xB0 ∷ 0x0F ∷ 0xFF ∷ 0xFF ∷ 0xC9 ∷ 0x00 ∷ 0x00 ∷ 0x09 ∷ 0x04 ∷ 0x18 ∷ 0x00 ∷ 0xE1 ∷ 0x2C ∷ 0x72 ∷ 0xA9 ∷ 0x5C ∷ 0xD9 ∷ []) ∷ []

-- the next one, without descriptors
abbrev next_run : List (List ℕ)
next_run = (0x01 ∷ 0xB0 ∷ 0x09 ∷ 0xFF ∷ 0xFF ∷ 0xCA ∷ 0x00 ∷ 0x00 ∷ 0x72 ∷ 0xA9 ∷ 0x5C ∷ 0xD9 ∷ []) ∷ []

-- a table of another kind
abbrev pmt_run : List (List ℕ)
pmt_run = (0x02 ∷ 0xB0 ∷ 0x09 ∷ 0xFF ∷ 0xFF ∷ 0xC9 ∷ 0x00 ∷ 0x00 ∷ 0x72 ∷ 0xA9 ∷ 0x5C ∷ 0xD9 ∷ []) ∷ []

-- of these the first one is in force
abbrev cat_in_run : Option TableHolding
cat_in_run = Some (record {
  head = record { table_id = 0x01; extension = 0xFFFF; version = 4; current = true; numbers = None };
  body = record { values = []; descriptors = ca_300 ∷ []; items = [] };
})

cat-rows : map current_cat (cat_run ∷ next_run ∷ pmt_run ∷ []) ≡ cat_in_run ∷ None ∷ None ∷ []
unfolding read_run read_sections read_section read_body read_heading read_fields read_loop read_last_loop table_reading.read_after descriptors_from bits number_of read_number read_bytes read_rest field bit_of
cat-rows = refl

last-row : last_found current_cat (cat_run ∷ next_run ∷ pmt_run ∷ []) ≡ cat_in_run
unfolding last_found read_run read_sections read_section read_body read_heading read_fields read_loop read_last_loop table_reading.read_after descriptors_from bits number_of read_number read_bytes read_rest field bit_of
last-row = refl

-- a packet is taken where more than one stands up to it: all but the first
taken-row : taken_where {X = ℕ} (λ upto x. nat_lt 1 (length upto)) (5 ∷ 6 ∷ 7 ∷ []) ≡ 6 ∷ 7 ∷ []
unfolding taken_after
taken-row = refl

-- it is asked with all up to it, those too that were not taken
taken-behind-row : taken_after {X = ℕ} (λ upto x. nat_lt (length upto) 3) (1 ∷ []) (5 ∷ 6 ∷ []) ≡ 5 ∷ []
unfolding taken_after
taken-behind-row = refl

-- a PAT of version 4 with service 1 on PID 4096, and one that takes its place
abbrev pat_run : List (List ℕ)
pat_run = (0x00 ∷ 0xB0 ∷ 0x0D ∷ 0x00 ∷ 0x05 ∷ 0xC9 ∷ 0x00 ∷ 0x00 ∷ 0x00 ∷ 0x01 ∷ 0xF0 ∷ 0x00 ∷ 0x72 ∷ 0xA9 ∷ 0x5C ∷ 0xD9 ∷ []) ∷ []

abbrev pat_run_2 : List (List ℕ)
pat_run_2 = (0x00 ∷ 0xB0 ∷ 0x0D ∷ 0x00 ∷ 0x05 ∷ 0xCB ∷ 0x00 ∷ 0x00 ∷ 0x00 ∷ 0x01 ∷ 0xF0 ∷ 0x01 ∷ 0x72 ∷ 0xA9 ∷ 0x5C ∷ 0xD9 ∷ []) ∷ []

-- the PAT that replaces another is where that was, and the next CAT beside the current one
contents-row : map (λ entry. entry.1) (entries_of (pat_run ∷ cat_run ∷ next_run ∷ pat_run_2 ∷ [])) ≡ pat_run_2 ∷ cat_run ∷ next_run ∷ []
unfolding entries_of field bit_of
contents-row = refl

-- of tables none of which is a current PAT none is in force; of two the last one is
pat-in-force : map (λ pat. services_in pat) (last_found current_pat (cat_run ∷ []) ∷ last_found current_pat (pat_run ∷ pat_run_2 ∷ cat_run ∷ []) ∷ []) ≡ [] ∷ ((1, 4097) ∷ []) ∷ []
unfolding last_found read_run read_sections read_section read_body read_heading read_fields read_loop read_last_loop table_reading.read_after descriptors_from bits number_of read_number read_bytes read_rest field bit_of read_field table_reading.read_items table_reading.read_next table_reading.read_item table_reading.read_described
pat-in-force = refl

-- a current PMT of service 1 without components, which is none of service 2
abbrev pmt_of_1 : List (List ℕ)
pmt_of_1 = (0x02 ∷ 0xB0 ∷ 0x0D ∷ 0x00 ∷ 0x01 ∷ 0xC1 ∷ 0x00 ∷ 0x00 ∷ 0xE1 ∷ 0x00 ∷ 0xF0 ∷ 0x00 ∷ 0x72 ∷ 0xA9 ∷ 0x5C ∷ 0xD9 ∷ []) ∷ []

pmt-in-force : map (λ service. pids_of (current_pmt service pmt_of_1)) (1 ∷ 2 ∷ []) ≡ (256 ∷ []) ∷ [] ∷ []
unfolding read_run read_sections read_section read_body read_heading read_fields read_loop read_last_loop table_reading.read_after descriptors_from bits number_of read_number read_bytes read_rest field bit_of read_field table_reading.read_counted_loop table_reading.read_counted table_reading.read_items
pmt-in-force = refl

-- packets of PIDs 256 and 257
abbrev on_256 : List ℕ
on_256 = 0x47 ∷ 0x41 ∷ 0x00 ∷ 0x10 ∷ []

abbrev on_257 : List ℕ
on_257 = 0x47 ∷ 0x41 ∷ 0x01 ∷ 0x10 ∷ []

-- what is told at the packets on PID 256 is how many were met, itself included, of whatever PID
told-row : told_on {K = ℕ} always 256 length (on_257 ∷ on_256 ∷ on_257 ∷ on_256 ∷ []) ≡ 2 ∷ 4 ∷ []
unfolding told_after field bit_of
told-row = refl

-- nothing is told at a packet at whose position the PID is not followed: here from the third packet on it is
told-followed-row : told_on {K = ℕ} (λ pid packets. nat_lt 2 (length packets)) 256 length (on_256 ∷ on_257 ∷ on_256 ∷ on_256 ∷ []) ≡ 3 ∷ 4 ∷ []
unfolding told_after field bit_of
told-followed-row = refl

-- an edit that removes tables from the third packet on, of whatever PID, is in use at the second one on PID 256; behind the
-- last one nothing is edited
in-use-row : map (λ s. edits_on always 256 (λ met run. if nat_lt 2 (length met) then away else same) (on_256 ∷ on_257 ∷ on_256 ∷ []) s cat_run) (0 ∷ 1 ∷ 2 ∷ []) ≡ same ∷ away ∷ same ∷ []
unfolding told_after field bit_of
in-use-row = refl

-- so a PAT is carried by the cycle that starts at the first of them, and nothing by one that starts at the second
carried-row : map (λ s. edited_sections (edits_on always 256 (λ met run. if nat_lt 2 (length met) then away else same) (on_256 ∷ on_257 ∷ on_256 ∷ []) s) (pat_run ∷ [])) (0 ∷ 1 ∷ []) ≡ pat_run ∷ [] ∷ []
unfolding told_after field bit_of
carried-row = refl
