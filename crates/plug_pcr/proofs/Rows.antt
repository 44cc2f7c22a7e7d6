-- Worked rows of `pcrverify`, computed on the definitions. Packets of twelve bytes are enough here.
use Rattle.std.proofs.Common.{◌≡◌, ℕ, ◌+◌, ◌-◌, ◌*◌, ◌^◌, ◌/◌, ◌%◌, List, [], ◌∷◌, codes, refl}
use Rattle.std.specs.Fmt.{digits}
use Rattle.ts_bit_rows.specs.BitRow.{bit_of, field}
use Rattle.ts_packet.specs.declared.cell.Cell.{Cell}
use Rattle.ts_packet.specs.Cells.{Live, Dropped}
use Rattle.ts_packet.specs.Adaptation.{adaptation_length_of, discontinuity_of}
use Rattle.ts_packet.specs.Pcr.{clock_bytes, clock_of, has_pcr_of}
use Rattle.chain_model.specs.Reports.{said_of}
use Rattle.plugin_trait.specs.PlacedLines.{placed_of}
use Rattle.plug_clock.specs.ClockUnits.{units_taken}
use Rattle.plug_pcr.specs.ClockJitter.{jitter_of}
use Rattle.plug_pcr.specs.PcrverifyRule.{pcrverify_rule}
use Rattle.plug_clock.specs.declared.limits.TheConstants.{CLOCK_PERIOD, PACKET_UNITS}
use Rattle.plug_pcr.specs.declared.limits.TheConstants.{DEFAULT_JITTER, MOST_BITRATE, MOST_JITTER}
use Rattle.plug_pcr.specs.declared.pcrverify_conf.PcrverifyConf.{PcrverifyConf}

-- a packet on PID 256 whose adaptation field has these flags and this PCR
abbrev packet_with : ℕ → ℕ → List ℕ
packet_with flags clock = 0x47 ∷ 0x01 ∷ 0x00 ∷ 0x30 ∷ 7 ∷ flags ∷ clock_bytes (clock / 300) (clock % 300)

-- with the PCR_flag only, and with the discontinuity_indicator too
abbrev clocked : ℕ → Cell
clocked clock = Live (packet_with 0x10 clock) 0

abbrev flagged : ℕ → Cell
flagged clock = Live (packet_with 0x90 clock) 0

-- a packet on PID 256 without a PCR
abbrev bare : Cell
bare = Live (0x47 ∷ 0x01 ∷ 0x00 ∷ 0x10 ∷ []) 0

-- at 13,536,000 bits per second a packet takes 3000 units; a jitter of 1000 is no fault
abbrev checks : PcrverifyConf
checks = record { bitrate = 13536000; jitter_max = 1000; pid = [] }

-- the numbers of the clock and of the options
period : CLOCK_PERIOD ≡ 2 ^ 33 * 300
period = refl

packet-units : PACKET_UNITS ≡ 188 * 8 * 27000000
packet-units = refl

limits : (MOST_BITRATE ∷ MOST_JITTER ∷ DEFAULT_JITTER ∷ []) ≡ 10000000000 ∷ 2576980377599 ∷ 27000 ∷ []
limits = refl

one-packet : units_taken 13536000 1 ≡ 3000
one-packet = refl

-- 50 packets at 13,000,000 bits per second take 156184.6 units, of which the whole ones count
fifty-packets : jitter_of 13000000 50 0 150000 ≡ 6184
fifty-packets = refl

-- the clock wraps at 2^33 * 300; an extension of 511 takes a PCR beyond it
begins-again : jitter_of 13536000 1 (CLOCK_PERIOD - 1000) 2000 ≡ 0
begins-again = refl

beyond-it : jitter_of 13536000 1 (CLOCK_PERIOD + 211) 3211 ≡ 0
beyond-it = refl

-- half a period is the greatest jitter, in either direction
half-way : jitter_of 13536000 1 0 (CLOCK_PERIOD / 2 + 3000) ≡ 1288490188800
half-way = refl

-- exact PCRs
exact : said_of (pcrverify_rule checks) (clocked 7000 ∷ clocked 10000 ∷ bare ∷ clocked 16000 ∷ []) ≡ codes "pcr 3 faults 0" ∷ []
unfolding digits field bit_of adaptation_length_of discontinuity_of has_pcr_of clock_of
exact = refl

-- one that is off by the greatest jitter that is no fault
moved : said_of (pcrverify_rule checks) (clocked 7000 ∷ clocked 11000 ∷ clocked 13000 ∷ []) ≡ codes "pcr 3 faults 0" ∷ []
unfolding digits field bit_of adaptation_length_of discontinuity_of has_pcr_of clock_of
moved = refl

-- and by one more: it is a fault, and so is the exact one after it, which is compared with it
moved-too_far : said_of (pcrverify_rule checks) (clocked 7000 ∷ clocked 11001 ∷ clocked 13000 ∷ [])
    ≡ codes "packet 1 pid 256 jitter 1001" ∷ codes "packet 2 pid 256 jitter 1001" ∷ codes "pcr 3 faults 2" ∷ []
unfolding digits field bit_of adaptation_length_of discontinuity_of has_pcr_of clock_of
moved-too_far = refl

moved-place : placed_of (pcrverify_rule checks) (Dropped ∷ clocked 7000 ∷ clocked 11001 ∷ [])
    ≡ record { at = 2; text = codes "packet 2 pid 256 jitter 1001" } ∷ record { at = 3; text = codes "pcr 2 faults 1" } ∷ []
unfolding digits field bit_of adaptation_length_of discontinuity_of has_pcr_of clock_of
moved-place = refl

-- with a discontinuity_indicator any PCR is allowed, and the next one is compared with it
flagged-no_fault : said_of (pcrverify_rule checks) (clocked 7000 ∷ flagged 999000 ∷ clocked 1002000 ∷ []) ≡ codes "pcr 3 faults 0" ∷ []
unfolding digits field bit_of adaptation_length_of discontinuity_of has_pcr_of clock_of
flagged-no_fault = refl

-- a dropped cell has a position, so it takes its time
dropped-takes_time : said_of (pcrverify_rule checks) (clocked 7000 ∷ Dropped ∷ Dropped ∷ clocked 16000 ∷ []) ≡ codes "pcr 2 faults 0" ∷ []
unfolding digits field bit_of adaptation_length_of discontinuity_of has_pcr_of clock_of
dropped-takes_time = refl

-- PIDs that are not listed are not checked
other-pid : said_of (pcrverify_rule (record checks { pid = (257, 300) ∷ [] })) (clocked 7000 ∷ clocked 7000 ∷ []) ≡ codes "pcr 0 faults 0" ∷ []
unfolding digits field bit_of adaptation_length_of discontinuity_of has_pcr_of clock_of
other-pid = refl
