-- Worked rows of what tables ask for, computed on the definitions.
use Rattle.std.proofs.Common.{◌≡◌, ℕ, [], ◌∷◌, map, Some, true, false, refl}
use Rattle.ts_bit_rows.specs.BitRow.{bit_of, field}
use Rattle.ts_bits.specs.TaggedBody.{TaggedBody}
use Rattle.ts_fields.specs.Bits.{bits, number_of}
use Rattle.ts_fields.specs.Reading.{read_number, read_bytes, read_rest, read_field, read_rows}
use Rattle.ts_fields.specs.Bodies.{read_page, read_after, read_items}
use Rattle.ts_fields.specs.Layout.{number}
use Rattle.ts_descr.specs.Descriptors.{read_typed}
use Rattle.ts_table_rows.specs.TableValues.{ItemHolding, TableHolding}
use Rattle.plug_psi.proofs.RowTables.{item_of, table_of}
use Rattle.monitor_lines.specs.declared.detail.Detail.TheVariants.{Gap}
use Rattle.monitor_lines.specs.declared.indicator.Indicator.TheVariants as indicator
use Rattle.monitor_lines.specs.declared.missing.Missing.TheVariants as missing
use Rattle.monitor_services.specs.EventErrors.{section_events, service_numbers}
use Rattle.monitor_services.specs.GapErrors.{gap_error}
use Rattle.monitor_services.specs.PidErrors.{pids_in}
use Rattle.monitor_services.specs.PmtErrors.{pat_numbers, section_number}
use Rattle.monitor_services.specs.StampErrors.{starts_in}
use Rattle.monitor_services.specs.declared.limits.TheConstants.{CLOCK_LIMIT, EVENT_LIMIT, PMT_LIMIT, STAMP_LIMIT}
use Rattle.monitor_services.specs.declared.pid_kind.PidKind.TheVariants.{Component, Clock}
use Rattle.monitor_services.specs.declared.row_kind.RowKind.TheVariants as row

-- ---- 1.5

-- the network PID is no service's; the PID of service 1 is that of its first entry
numbers : pat_numbers (Some (table_of 0 1 [] [] (item_of 0 16 [] ∷ item_of 1 4096 [] ∷ item_of 2 4097 [] ∷ item_of 1 4098 [] ∷ [])))
    ≡ 12288 ∷ 20481 ∷ 12288 ∷ []
numbers = refl

-- on PID 4096 the head of a PMT of service 1, the same in the short form, and that of an EIT
sections : map (section_number 4096) ((0x02 ∷ 0xB0 ∷ 0x0D ∷ 0 ∷ 1 ∷ 0xC1 ∷ 0 ∷ 0 ∷ []) ∷ (0x02 ∷ 0x30 ∷ 0x0D ∷ 0 ∷ 1 ∷ 0xC1 ∷ 0 ∷ 0 ∷ []) ∷ (0x4E ∷ 0xF0 ∷ 0x0D ∷ 0 ∷ 1 ∷ 0xC1 ∷ 0 ∷ 0 ∷ []) ∷ [])
    ≡ (12288 ∷ []) ∷ [] ∷ [] ∷ []
unfolding field bit_of
sections = refl

-- the gap of the PMT of service 1 on PID 4096 that ends at 6 and is known at 8
missing-pmt : gap_error row.Pmts 8 (record { number = 12288; gap = record { at = 6; units = 14310000 } })
    ≡ record { known = 8; at = 6; indicator = indicator.Pmt; detail = Gap (missing.Pmt 1) 530 }
missing-pmt = refl

-- ---- 1.6 and 2.3

abbrev ac3 : TaggedBody
ac3 = record { tag = 106; body = 0 ∷ [] }

-- an ISO_639_language_descriptor for English with an audio_type
abbrev english : ℕ → TaggedBody
english audio_type = record { tag = 10; body = 0x65 ∷ 0x6E ∷ 0x67 ∷ audio_type ∷ [] }

-- picture, AC-3, subtitles, sound with a commentary, sound, and private sections; the PCR_PID is that of the picture
abbrev pmt : TableHolding
pmt = table_of 2 1 (256 ∷ []) []
    (item_of 27 256 [] ∷ item_of 6 257 (ac3 ∷ []) ∷ item_of 6 258 [] ∷ item_of 3 259 (english 3 ∷ []) ∷ item_of 4 260 (english 0 ∷ []) ∷ item_of 5 261 [] ∷ [])

components : pids_in Component pmt ≡ 256 ∷ 257 ∷ 260 ∷ []
unfolding bits number_of read_number read_bytes read_rest read_field read_rows read_items read_page read_after read_typed
components = refl

clocks : map (pids_in Clock) (pmt ∷ table_of 2 1 (8191 ∷ []) [] [] ∷ []) ≡ (256 ∷ []) ∷ [] ∷ []
clocks = refl

missing-packets : gap_error row.Packets 8 (record { number = 256; gap = record { at = 8; units = 135027001 } })
    ≡ record { known = 8; at = 8; indicator = indicator.Pid; detail = Gap (missing.Packet 256) 5001 }
missing-packets = refl

missing-clocks : gap_error row.Clocks 8 (record { number = 256; gap = record { at = 8; units = 27027000 } })
    ≡ record { known = 8; at = 8; indicator = indicator.Pcr; detail = Gap (missing.Pcr 256) 1001 }
missing-clocks = refl

-- ---- 2.5

-- with a packet on PID 256 in which no PES packet begins, PID 257 is waited for as before, and no other one
waited : map (starts_in (257 ∷ []) (0x47 ∷ 0x01 ∷ 0x00 ∷ 0x10 ∷ [])) (256 ∷ 257 ∷ 258 ∷ []) ≡ false ∷ true ∷ false ∷ []
unfolding field bit_of
waited = refl

missing-stamps : gap_error row.Stamps 8 (record { number = 256; gap = record { at = 6; units = 18927000 } })
    ≡ record { known = 8; at = 6; indicator = indicator.Pts; detail = Gap (missing.Pts 256) 701 }
missing-stamps = refl

-- ---- 3.6

-- a service of an SDT with these flags, of its EIT schedule and of its EIT present/following
abbrev service : ℕ → ℕ → ℕ → ItemHolding
service id schedule present = record { values = map number (id ∷ schedule ∷ present ∷ 4 ∷ 0 ∷ []); descriptors = [] }

asked : map service_numbers (service 5 0 1 ∷ service 6 1 0 ∷ []) ≡ (10 ∷ 11 ∷ []) ∷ [] ∷ []
asked = refl

-- sections 0, 1 and 2 of table_id 78 of service 5, and section 1 of table_id 79
come : map section_events ((0x4E ∷ 0xF0 ∷ 0x0D ∷ 0 ∷ 5 ∷ 0xC1 ∷ 0 ∷ 1 ∷ []) ∷ (0x4E ∷ 0xF0 ∷ 0x0D ∷ 0 ∷ 5 ∷ 0xC1 ∷ 1 ∷ 1 ∷ []) ∷ (0x4E ∷ 0xF0 ∷ 0x0D ∷ 0 ∷ 5 ∷ 0xC1 ∷ 2 ∷ 2 ∷ []) ∷ (0x4F ∷ 0xF0 ∷ 0x0D ∷ 0 ∷ 5 ∷ 0xC1 ∷ 1 ∷ 1 ∷ []) ∷ [])
    ≡ (10 ∷ []) ∷ (11 ∷ []) ∷ [] ∷ [] ∷ []
unfolding field bit_of
come = refl

missing-events : gap_error row.Events 8 (record { number = 11; gap = record { at = 8; units = 54027000 } })
    ≡ record { known = 8; at = 8; indicator = indicator.Eit; detail = Gap (missing.Eit 5 1) 2001 }
missing-events = refl

-- ---- the limits: 500 ms, 1 s, 700 ms, 2 s

limits : PMT_LIMIT ∷ CLOCK_LIMIT ∷ STAMP_LIMIT ∷ EVENT_LIMIT ∷ [] ≡ 13500000 ∷ 27000000 ∷ 18900000 ∷ 54000000 ∷ []
limits = refl
