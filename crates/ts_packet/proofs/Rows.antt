-- Worked rows: the definitions computed on packet heads of other multiplexers.
use Rattle.std.proofs.Common.{◌≡◌, ℕ, List, [], ◌∷◌, true, Some, None, refl}
use Rattle.ts_bit_rows.specs.BitRow.{bit_of, field}
use Rattle.ts_packet.specs.declared.cell.Cell.{Cell}
use Rattle.ts_packet.specs.Cells.{Live, Dropped}
use Rattle.ts_packet.specs.Packet.{null_packet}
use Rattle.ts_packet.specs.Header.{pid_of, counter_of, unit_start_of, with_pid, with_counter}
use Rattle.ts_packet.specs.Adaptation.{adaptation_length_of, discontinuity_of}
use Rattle.ts_packet.specs.Payload.{payload_start_of, payload_of}
use Rattle.ts_packet.specs.LiveRows.{labelled, live_rows}
use Rattle.ts_packet.specs.MetRows.{met_rows}
use Rattle.ts_packet.specs.Pcr.{pcr_of, has_pcr_of, clock_of, with_pcr}

-- the first PCR of a multiplexer's stream, with its discontinuity flag, and two payload bytes
abbrev clocked : List ℕ
clocked = 0x47 ∷ 0x41 ∷ 0x20 ∷ 0x30 ∷ 7 ∷ 0xD0 ∷ 0 ∷ 0 ∷ 0x7B ∷ 0xC3 ∷ 0x7E ∷ 0x48 ∷ 0xAB ∷ 0xCD ∷ []

-- an adaptation field of length 184, which is not valid
abbrev unlawful : List ℕ
unlawful = 0x47 ∷ 0x03 ∷ 0x31 ∷ 0x31 ∷ 184 ∷ 0x10 ∷ 0x33 ∷ []

pid-of-clocked : pid_of clocked ≡ 288
unfolding field bit_of
pid-of-clocked = refl

counter-of-null : counter_of null_packet ≡ 0
unfolding field bit_of
counter-of-null = refl

unit_start-of-clocked : unit_start_of clocked ≡ true
unfolding field bit_of
unit_start-of-clocked = refl

length-of-clocked : adaptation_length_of clocked ≡ Some 7
unfolding field bit_of adaptation_length_of
length-of-clocked = refl

length-of-unlawful : adaptation_length_of unlawful ≡ None
unfolding field bit_of adaptation_length_of
length-of-unlawful = refl

discontinuity-of-clocked : discontinuity_of clocked ≡ true
unfolding field bit_of adaptation_length_of discontinuity_of
discontinuity-of-clocked = refl

payload-of-clocked : payload_of clocked ≡ 0xAB ∷ 0xCD ∷ []
unfolding field bit_of adaptation_length_of payload_start_of payload_of
payload-of-clocked = refl

payload-of-unlawful : payload_of unlawful ≡ []
unfolding field bit_of adaptation_length_of payload_start_of payload_of
payload-of-unlawful = refl

pcr-of-clocked : pcr_of clocked ≡ Some 19009872
unfolding field bit_of adaptation_length_of has_pcr_of clock_of pcr_of
pcr-of-clocked = refl

pcr-of-unlawful : pcr_of unlawful ≡ None
unfolding field bit_of adaptation_length_of has_pcr_of clock_of pcr_of
pcr-of-unlawful = refl

-- the same value written again gives the same bytes
clocked-written : with_pcr clocked 19009872 ≡ clocked
unfolding with_pcr
clocked-written = refl

-- the PID 8191 in place of 288 keeps the flags above it
null-pid-written : with_pid (0x47 ∷ 0x41 ∷ 0x20 ∷ []) 8191 ≡ 0x47 ∷ 0x5F ∷ 0xFF ∷ []
unfolding with_pid
null-pid-written = refl

counter-written : with_counter (0x47 ∷ 0x41 ∷ 0x20 ∷ 0x3F ∷ []) 2 ≡ 0x47 ∷ 0x41 ∷ 0x20 ∷ 0x32 ∷ []
unfolding with_counter
counter-written = refl

-- two packets with their labels, and between them a dropped cell, which has no row and keeps its position
abbrev cells : List Cell
cells = Live unlawful 5 ∷ Dropped ∷ Live clocked 0 ∷ []

rows-of-cells : live_rows cells ≡ labelled unlawful 5 ∷ labelled clocked 0 ∷ []
rows-of-cells = refl

met-of-cells : met_rows cells ≡ record { at = 0; packet = unlawful; labels = 5 } ∷ record { at = 2; packet = clocked; labels = 0 } ∷ []
met-of-cells = refl
