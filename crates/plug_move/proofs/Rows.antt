-- Worked rows of `remap`, computed on the definitions. Packets of three bytes do as well as whole ones here.
use Rattle.std.proofs.Common.{◌≡◌, ℕ, List, [], ◌∷◌, None, Some, true, false, refl}
use Rattle.ts_bit_rows.specs.BitRow.{bit_of, field}
use Rattle.ts_packet.specs.Cells.{Live, Dropped}
use Rattle.ts_packet.specs.Header.{with_pid}
use Rattle.chain_model.specs.declared.reason.Reason.TheVariants.{Pid}
use Rattle.chain_model.specs.Apply.{apply, refused}
use Rattle.plug_move.specs.declared.remap_conf.RemapConf.{RemapConf}
use Rattle.plug_move.specs.MoveTables.{move_of}
use Rattle.plug_move.specs.RemapRule.{is_refused, moved_edited, remap_rule}
use Rattle.plug_move.specs.MappedTables.{mapped_descriptor, mapped_pat, mapped_pmt}
use Rattle.ts_bits.specs.TaggedBody.{TaggedBody}
use Rattle.ts_descr.specs.Descriptors.{read_typed}
use Rattle.ts_fields.specs.Bits.{bits, number_of}
use Rattle.ts_fields.specs.Bodies.{read_after, read_page, spell_page}
use Rattle.ts_fields.specs.Layout.{number}
use Rattle.ts_fields.specs.Reading.{read_bytes, read_field, read_number, read_rest, read_rows}
use Rattle.ts_fields.specs.Spelling.{spell_field, spell_rows}
use Rattle.ts_table_rows.specs.BodySpelling.{bytes_of}
use Rattle.ts_table_rows.specs.TableValues.{ItemHolding, TableHolding}
use Rattle.plug_move.specs.declared.move_table.Move.TheVariants.{Keep, To, Refuse}
use Rattle.plug_move.specs.RemapSettings.{pairs_agree}

-- a packet on each of the PIDs 256 to 258 and 512, the first with its unit start indicator
abbrev on_256 : List ℕ
on_256 = 0x47 ∷ 0x41 ∷ 0x00 ∷ []

abbrev on_257 : List ℕ
on_257 = 0x47 ∷ 0x01 ∷ 0x01 ∷ []

abbrev on_258 : List ℕ
on_258 = 0x47 ∷ 0x01 ∷ 0x02 ∷ []

abbrev on_512 : List ℕ
on_512 = 0x47 ∷ 0x02 ∷ 0x00 ∷ []

-- `remap 256=512 --no-psi`
abbrev moves : RemapConf
moves = record { operand = (256, 512) ∷ []; no_psi = true; unchecked = false }

-- a source moves with its flags, and others stay
moved : apply (remap_rule moves) (Live on_256 0 ∷ Dropped ∷ Live on_257 0 ∷ [])
    ≡ record { cells = Live (0x47 ∷ 0x42 ∷ 0x00 ∷ []) 0 ∷ Dropped ∷ Live on_257 0 ∷ []; ended = None }
unfolding field bit_of with_pid
moved = refl

-- a packet that is on the target already is refused
target-refused : apply (remap_rule moves) (Live on_257 0 ∷ Live on_512 0 ∷ Live on_257 0 ∷ [])
    ≡ record { cells = Live on_257 0 ∷ []; ended = Some (refused (Pid 512)) }
unfolding field bit_of with_pid
target-refused = refl

-- and passes with `--unchecked`
target-unchecked : apply (remap_rule (record moves { unchecked = true })) (Live on_512 0 ∷ Live on_256 0 ∷ [])
    ≡ record { cells = Live on_512 0 ∷ Live (0x47 ∷ 0x42 ∷ 0x00 ∷ []) 0 ∷ []; ended = None }
unfolding field bit_of with_pid
target-unchecked = refl

-- two PIDs that change places: a target that is a source moves too, and is not refused
abbrev changed : RemapConf
changed = record { operand = (257, 258) ∷ (258, 257) ∷ []; no_psi = true; unchecked = false }

places-changed : apply (remap_rule changed) (Live on_257 0 ∷ Live on_258 0 ∷ Live on_512 0 ∷ [])
    ≡ record { cells = Live on_258 0 ∷ Live on_257 0 ∷ Live on_512 0 ∷ []; ended = None }
unfolding field bit_of with_pid
places-changed = refl

-- what is done with each PID
source-moves : move_of ((256, 512) ∷ (512, 8191) ∷ []) false 512 ≡ To 8191
source-moves = refl

target-is_refused : move_of ((256, 512) ∷ (512, 8191) ∷ []) false 8191 ≡ Refuse
target-is_refused = refl

other-stays : move_of ((256, 512) ∷ (512, 8191) ∷ []) false 257 ≡ Keep
other-stays = refl

-- a target that repeats, checked and unchecked
agree-target_twice : pairs_agree (record { operand = (1, 3) ∷ (2, 3) ∷ []; no_psi = true; unchecked = false }) ≡ false
agree-target_twice = refl

agree-unchecked : pairs_agree (record { operand = (1, 3) ∷ (2, 3) ∷ []; no_psi = true; unchecked = true }) ≡ true
agree-unchecked = refl

-- a target that is a source is not refused, and a target that is none is
source-not-refused : is_refused changed 258 ≡ false
source-not-refused = refl

target-alone-refused : is_refused moves 512 ≡ true
target-alone-refused = refl

-- `remap 256=512`
abbrev pairs : List (ℕ × ℕ)
pairs = (256, 512) ∷ []

-- an item of two numbers, without descriptors
abbrev item : ℕ → ℕ → ItemHolding
item a b = record { values = number a ∷ number b ∷ []; descriptors = [] }

-- the PMT of service 1 that the generator makes, and its like with the clock and the components of these PIDs
abbrev pmt : ℕ → ℕ → ℕ → TableHolding
pmt pcr_pid first second = record {
  head = record { table_id = 0x02; extension = 1; version = 0; current = true; numbers = None };
  body = record { values = number pcr_pid ∷ []; descriptors = []; items = item 2 first ∷ item 3 second ∷ [] };
}

pmt-mapped : mapped_pmt pairs (pmt 256 256 257) ≡ pmt 512 512 257
pmt-mapped = refl

-- a PMT without a clock keeps none
pmt-no-clock : mapped_pmt pairs (pmt 8191 257 256) ≡ pmt 8191 257 512
pmt-no-clock = refl

-- a PAT with a network PID and the PID of a service
abbrev pat : ℕ → ℕ → TableHolding
pat network service = record {
  head = record { table_id = 0x00; extension = 1; version = 0; current = true; numbers = None };
  body = record { values = []; descriptors = []; items = item 0 network ∷ item 1 service ∷ [] };
}

pat-mapped : mapped_pat ((256, 512) ∷ (4096, 300) ∷ []) (pat 256 4096) ≡ pat 512 300
pat-mapped = refl

-- a null packet that was put in stays, whatever the PID of the packet in whose place it is
null-stays : moved_edited (Some 512) (0x47 ∷ 0x1F ∷ 0xFF ∷ []) ≡ 0x47 ∷ 0x1F ∷ 0xFF ∷ []
unfolding field bit_of with_pid
null-stays = refl

edited-moves : moved_edited (Some 512) on_256 ≡ 0x47 ∷ 0x42 ∷ 0x00 ∷ []
unfolding field bit_of with_pid
edited-moves = refl

-- a descriptor
abbrev descriptor : ℕ → List ℕ → TaggedBody
descriptor tag body = record { tag = tag; body = body }

-- a CA descriptor of the system 6144 keeps its private byte
ca-mapped : mapped_descriptor pairs (descriptor 0x09 (0x18 ∷ 0x00 ∷ 0xE1 ∷ 0x00 ∷ 0xAA ∷ [])) ≡ descriptor 0x09 (0x18 ∷ 0x00 ∷ 0xE2 ∷ 0x00 ∷ 0xAA ∷ [])
unfolding bits number_of read_number read_bytes read_rest read_field read_rows read_page read_after read_typed spell_field spell_rows spell_page bytes_of
ca-mapped = refl

-- one whose reserved bits are not ones is none, and stays
ca-outside : mapped_descriptor pairs (descriptor 0x09 (0x18 ∷ 0x00 ∷ 0x01 ∷ 0x00 ∷ [])) ≡ descriptor 0x09 (0x18 ∷ 0x00 ∷ 0x01 ∷ 0x00 ∷ [])
unfolding bits number_of read_number read_bytes read_rest read_field read_rows read_page read_after read_typed spell_field spell_rows spell_page bytes_of
ca-outside = refl
