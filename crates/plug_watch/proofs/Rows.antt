-- Worked rows of `count` and `continuity`, computed on the definitions. Packets of a few bytes are enough here.
use Rattle.std.proofs.Common.{◌≡◌, ℕ, ◌+◌, List, [], ◌∷◌, ◌++◌, true, false, codes, refl}
use Rattle.std.specs.Fmt.{digits}
use Rattle.std.specs.List.{flat_map}
use Rattle.ts_bit_rows.specs.BitRow.{bit_of, field}
use Rattle.ts_packet.specs.declared.cell.Cell.{Cell}
use Rattle.ts_packet.specs.Cells.{Live, Dropped, live_packets}
use Rattle.ts_packet.specs.Adaptation.{adaptation_length_of, discontinuity_of}
use Rattle.ts_packet.specs.Header.{with_counter}
use Rattle.chain_model.specs.Apply.{apply}
use Rattle.chain_model.specs.Reports.{said_of}
use Rattle.plugin_trait.specs.PlacedLines.{placed_of}
use Rattle.plugin_notes.specs.declared.continuity_conf.ContinuityConf.{ContinuityConf}
use Rattle.plug_watch.specs.declared.count_conf.CountConf.{CountConf}
use Rattle.plug_watch.specs.ContinuityRule.{continuity_rule, faults_in}
use Rattle.plugin_notes.specs.Counters.{right_counter}
use Rattle.plug_watch.specs.CountRule.{count_rule, pid_lines}
use Rattle.plugin_notes.specs.PidPackets.{numbers_below}

-- packets on the PIDs 1, 3 and 256
abbrev on_1 : List ℕ
on_1 = 0x47 ∷ 0x00 ∷ 0x01 ∷ []

abbrev on_3 : List ℕ
on_3 = 0x47 ∷ 0x00 ∷ 0x03 ∷ []

abbrev on_256 : List ℕ
on_256 = 0x47 ∷ 0x01 ∷ 0x00 ∷ []

-- six packets, of which five are on PID 256, and a dropped cell
abbrev cells : List Cell
cells = Live on_256 0 ∷ Live on_256 0 ∷ Dropped ∷ Live on_1 0 ∷ Live on_256 0 ∷ Live on_256 0 ∷ Live on_256 0 ∷ []

-- `count --pid 256`
abbrev counts : CountConf
counts = record { pid = (256, 256) ∷ []; negate = false; all = false; total = false }

pid-line : pid_lines (live_packets cells) 256 ≡ codes "pid 256 packets 5" ∷ []
unfolding digits field bit_of
pid-line = refl

no-pid-line : pid_lines (live_packets cells) 257 ≡ []
unfolding field bit_of
no-pid-line = refl

-- with `--total` only the total
total-line : said_of (count_rule (record counts { total = true })) cells ≡ codes "total 5" ∷ []
unfolding digits field bit_of
total-line = refl

-- the PIDs are ascending
pids-ascend : flat_map (pid_lines (on_3 ∷ on_1 ∷ on_3 ∷ [])) (numbers_below 5) ≡ codes "pid 1 packets 1" ∷ codes "pid 3 packets 2" ∷ []
unfolding digits field bit_of numbers_below
pids-ascend = refl

-- the lines of the PIDs, and then the total
whole-summary : (count_rule counts).summary_of cells ≡ flat_map (pid_lines (on_256 ∷ on_256 ∷ on_256 ∷ on_256 ∷ on_256 ∷ [])) (numbers_below 8192) ++ codes "total 5" ∷ []
unfolding digits field bit_of
whole-summary = refl

-- with `--all` each counted packet has its line, at its position
each-line : said_of (count_rule (record counts { negate = true; all = true; total = true })) cells ≡ codes "packet 3 pid 1" ∷ codes "total 1" ∷ []
unfolding digits field bit_of
each-line = refl

each-place : placed_of (count_rule (record counts { negate = true; all = true; total = true })) cells
    ≡ record { at = 3; text = codes "packet 3 pid 1" } ∷ record { at = 7; text = codes "total 1" } ∷ []
unfolding digits field bit_of
each-place = refl

-- a packet on PID 256 with a payload and this counter, one without a payload, and one whose adaptation field has the
-- discontinuity_indicator set
abbrev numbered : ℕ → List ℕ
numbered counter = 0x47 ∷ 0x01 ∷ 0x00 ∷ (0x10 + counter) ∷ []

abbrev bare : ℕ → List ℕ
bare counter = 0x47 ∷ 0x01 ∷ 0x00 ∷ (0x20 + counter) ∷ 183 ∷ 0x00 ∷ []

abbrev flagged : ℕ → List ℕ
flagged counter = 0x47 ∷ 0x01 ∷ 0x00 ∷ (0x30 + counter) ∷ 1 ∷ 0x80 ∷ []

-- `continuity`, and `continuity --fix`
abbrev watches : ContinuityConf
watches = record { pid = []; fix = false }

abbrev fixes : ContinuityConf
fixes = record { pid = []; fix = true }

-- after 15 comes 0; a duplicate has the counter of the packet before it, and so has a packet without a payload
no-fault : faults_in watches (Live (numbered 15) 0 ∷ Live (numbered 0) 0 ∷ Live (numbered 0) 0 ∷ Live (bare 0) 0 ∷ Live (numbered 1) 0 ∷ []) ≡ []
unfolding field bit_of adaptation_length_of discontinuity_of
no-fault = refl

-- with a discontinuity_indicator any counter is allowed
flagged-no_fault : faults_in watches (Live (numbered 3) 0 ∷ Live (flagged 9) 0 ∷ Live (numbered 10) 0 ∷ []) ≡ []
unfolding field bit_of adaptation_length_of discontinuity_of
flagged-no_fault = refl

-- a counter is missing; the dropped cell has a position
counter-fault : said_of (continuity_rule watches) (Live (numbered 3) 0 ∷ Dropped ∷ Live (numbered 5) 0 ∷ Live (numbered 6) 0 ∷ [])
    ≡ codes "packet 2 pid 256 counter 5 wanted 4" ∷ codes "faults 1" ∷ []
unfolding digits field bit_of adaptation_length_of discontinuity_of
counter-fault = refl

-- a packet without a payload whose counter is incremented
bare-fault : faults_in watches (Live (numbered 3) 0 ∷ Live (bare 4) 0 ∷ []) ≡ codes "packet 1 pid 256 counter 4 wanted 3" ∷ []
unfolding digits field bit_of adaptation_length_of discontinuity_of
bare-fault = refl

-- null packets are not checked, nor are other PIDs where some are listed
abbrev null : ℕ → Cell
null counter = Live (0x47 ∷ 0x1F ∷ 0xFF ∷ (0x10 + counter) ∷ []) 0

null-no_fault : faults_in watches (null 0 ∷ null 5 ∷ []) ≡ []
unfolding field bit_of adaptation_length_of discontinuity_of
null-no_fault = refl

other-no_fault : faults_in (record watches { pid = (257, 300) ∷ [] }) (Live (numbered 3) 0 ∷ Live (numbered 5) 0 ∷ []) ≡ []
unfolding field bit_of adaptation_length_of discontinuity_of
other-no_fault = refl

-- corrected counters: they count on from the first one; a duplicate keeps the counter of the packet before it, and so
-- does a packet without a payload
counters-fixed : (apply (continuity_rule fixes) (Live (numbered 14) 0 ∷ Live (numbered 4) 0 ∷ Live (numbered 4) 0 ∷ Live (bare 9) 0 ∷ null 7 ∷ Live (numbered 6) 0 ∷ [])).cells
    ≡ Live (numbered 14) 0 ∷ Live (numbered 15) 0 ∷ Live (numbered 15) 0 ∷ Live (bare 15) 0 ∷ null 7 ∷ Live (numbered 0) 0 ∷ []
unfolding field bit_of adaptation_length_of discontinuity_of with_counter
counters-fixed = refl

right-counter : right_counter (numbered 14 ∷ numbered 4 ∷ numbered 4 ∷ bare 9 ∷ numbered 6 ∷ []) ≡ 0
unfolding field bit_of adaptation_length_of discontinuity_of
right-counter = refl
