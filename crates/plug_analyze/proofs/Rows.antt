-- Worked rows of `analyze`, computed on the definitions. Packets of a few bytes do as well as whole ones here.
use Rattle.std.proofs.Common.{◌≡◌, ℕ, ◌+◌, List, [], ◌∷◌, codes, refl}
use Rattle.std.specs.Fmt.{digits}
use Rattle.ts_bit_rows.specs.BitRow.{bit_of, field}
use Rattle.ts_packet.specs.declared.cell.Cell.{Cell}
use Rattle.ts_packet.specs.Cells.{Live, Dropped}
use Rattle.ts_packet.specs.Adaptation.{adaptation_length_of, discontinuity_of}
use Rattle.ts_packet.specs.Pcr.{has_pcr_of, pcr_of}
use Rattle.plug_analyze.specs.AnalyzeRule.{counts_on, pid_text, service_text}

-- a packet on PID 256 with payload and this counter, a scrambled one, and one with an adaptation field alone, with room
-- for a PCR and its flag; a null packet
abbrev numbered : ℕ → List ℕ
numbered counter = 0x47 ∷ 0x01 ∷ 0x00 ∷ (0x10 + counter) ∷ []

abbrev scrambled : ℕ → List ℕ
scrambled counter = 0x47 ∷ 0x01 ∷ 0x00 ∷ (0x90 + counter) ∷ []

abbrev clocked : ℕ → List ℕ
clocked counter = 0x47 ∷ 0x01 ∷ 0x00 ∷ (0x20 + counter) ∷ 183 ∷ 0x10 ∷ []

abbrev null : ℕ → List ℕ
null counter = 0x47 ∷ 0x1F ∷ 0xFF ∷ (0x10 + counter) ∷ []

-- counter 4 is left out, and a null packet's counter is no fault
abbrev cells : List Cell
cells = Live (numbered 3) 0 ∷ Live (null 0) 0 ∷ Dropped ∷ Live (scrambled 5) 0 ∷ Live (clocked 5) 0 ∷ Live (null 9) 0 ∷ Live (numbered 6) 0 ∷ []

counts-on_256 : counts_on 256 cells ≡ record { packets = 4; payload = 3; scrambled = 1; faults = 1; pcr = 1 }
unfolding field bit_of adaptation_length_of discontinuity_of has_pcr_of pcr_of
counts-on_256 = refl

counts-on_8191 : counts_on 8191 cells ≡ record { packets = 2; payload = 2; scrambled = 0; faults = 0; pcr = 0 }
unfolding field bit_of adaptation_length_of discontinuity_of has_pcr_of pcr_of
counts-on_8191 = refl

pid-line : pid_text 256 (record { packets = 4; payload = 3; scrambled = 1; faults = 1; pcr = 1 }) ≡ codes "pid 256 packets 4 payload 3 scrambled 1 faults 1 pcr 1"
unfolding digits
pid-line = refl

service-line : service_text (record { id = 1; pid = 4096; components = 0 }) ≡ codes "service 1 pmt 4096 components 0"
unfolding digits
service-line = refl
