-- Worked rows of the rules, computed on the definitions. Packets have four bytes here, but those of `pattern`
-- are whole.
use Rattle.std.proofs.Common.{◌≡◌, ℕ, List, [], ◌∷◌, ◌++◌, replicate, None, Some, true, false, refl, lit≤}
use Rattle.ts_bit_rows.specs.BitRow.{bit_of, field}
use Rattle.ts_packet.specs.declared.cell.Cell.{Cell}
use Rattle.ts_packet.specs.Cells.{Live, Dropped}
use Rattle.ts_packet.specs.Packet.{null_packet}
use Rattle.ts_packet.specs.Adaptation.{adaptation_length_of}
use Rattle.ts_packet.specs.Payload.{payload_start_of}
use Rattle.ts_packet.specs.Pcr.{pcr_of, has_pcr_of, clock_of}
use Rattle.chain_model.specs.Apply.{apply, stopped}
use Rattle.plugin_options.specs.LabelSet.{label_set}
use Rattle.plug_pass.specs.declared.filter_conf.FilterConf.{FilterConf}
use Rattle.plug_pass.specs.declared.pattern_conf.PatternConf.{PatternConf}
use Rattle.plug_pass.specs.declared.slice_conf.SliceConf.{SliceConf}
use Rattle.plug_pass.specs.FilterRule.{filter_rule}
use Rattle.plug_pass.specs.PatternRule.{pattern_rule, repeated}
use Rattle.plug_pass.specs.SkipRule.{skip_rule}
use Rattle.plug_pass.specs.SliceRule.{slice_rule}
use Rattle.plug_pass.specs.SkipSettings.{IsValidSkip}
use Rattle.plug_pass.specs.SliceSettings.{slices_differ}

-- a packet on PID 256, one on PID 257 with its unit start indicator, and a scrambled one on PID 258
abbrev on_256 : List ℕ
on_256 = 0x47 ∷ 0x01 ∷ 0x00 ∷ 0x10 ∷ []

abbrev on_257 : List ℕ
on_257 = 0x47 ∷ 0x41 ∷ 0x01 ∷ 0x10 ∷ []

abbrev on_258 : List ℕ
on_258 = 0x47 ∷ 0x01 ∷ 0x02 ∷ 0x90 ∷ []

abbrev three : List Cell
three = Live on_256 0 ∷ Live on_257 0 ∷ Live on_258 0 ∷ []

-- `filter --pid 256-257`
abbrev by_pid : FilterConf
by_pid = record { pid = (256, 257) ∷ []; pcr = false; unit_start = false; scrambled = false; label = []; negate = false; stuffing = false; set_label = [] }

pid-kept : (apply (filter_rule by_pid) three).cells ≡ Live on_256 0 ∷ Live on_257 0 ∷ Dropped ∷ []
unfolding field bit_of adaptation_length_of has_pcr_of clock_of pcr_of
pid-kept = refl

-- with `--negate`, and with `--stuffing` too
pid-negated : (apply (filter_rule (record by_pid { negate = true })) three).cells ≡ Dropped ∷ Dropped ∷ Live on_258 0 ∷ []
unfolding field bit_of adaptation_length_of has_pcr_of clock_of pcr_of
pid-negated = refl

pid-stuffed : (apply (filter_rule (record by_pid { stuffing = true })) three).cells ≡ Live on_256 0 ∷ Live on_257 0 ∷ Live null_packet 0 ∷ []
unfolding field bit_of adaptation_length_of has_pcr_of clock_of pcr_of
pid-stuffed = refl

-- one of two conditions is enough
one-of_two : (apply (filter_rule (record by_pid { pid = []; unit_start = true; scrambled = true })) three).cells ≡ Dropped ∷ Live on_257 0 ∷ Live on_258 0 ∷ []
unfolding field bit_of adaptation_length_of has_pcr_of clock_of pcr_of
one-of_two = refl

-- `filter --pid 256-257 --set-label 3`: every packet passes, and label 3 is added to the labels that were there
abbrev sets_3 : FilterConf
sets_3 = record by_pid { set_label = (3, 3) ∷ [] }

label-added : (apply (filter_rule sets_3) (Live on_256 0 ∷ Live on_257 1 ∷ Live on_258 1 ∷ [])).cells
    ≡ Live on_256 8 ∷ Live on_257 9 ∷ Live on_258 1 ∷ []
unfolding field bit_of adaptation_length_of has_pcr_of clock_of pcr_of label_set
label-added = refl

-- with `--negate` the others get it
label-negated : (apply (filter_rule (record sets_3 { negate = true })) three).cells ≡ Live on_256 0 ∷ Live on_257 0 ∷ Live on_258 8 ∷ []
unfolding field bit_of adaptation_length_of has_pcr_of clock_of pcr_of label_set
label-negated = refl

-- `filter --label 2-3 --stuffing`: a null packet keeps the labels of its place
label-kept : (apply (filter_rule (record by_pid { pid = []; label = (2, 3) ∷ []; stuffing = true })) (Live on_256 8 ∷ Live on_257 1 ∷ [])).cells
    ≡ Live on_256 8 ∷ Live null_packet 1 ∷ []
unfolding field bit_of adaptation_length_of has_pcr_of clock_of pcr_of label_set
label-kept = refl

-- `skip 2`: a cell that was dropped before is no packet
two-skipped : (apply (skip_rule 2) (Live on_256 0 ∷ Dropped ∷ Live on_257 0 ∷ Live on_258 0 ∷ [])).cells ≡ Dropped ∷ Dropped ∷ Dropped ∷ Live on_258 0 ∷ []
two-skipped = refl

none-skipped : (apply (skip_rule 0) three).cells ≡ three
none-skipped = refl

-- `slice --drop 1 --pass 3 --stop 4`: packets are numbered from 0
abbrev slices : SliceConf
slices = record { drop = Some 1; null = None; pass = Some 3; stop = Some 4; milliseconds = false; pcr_pid = None }

sliced : apply (slice_rule slices) (Live on_256 0 ∷ Live on_257 0 ∷ Live on_258 0 ∷ Live on_257 0 ∷ Live on_256 0 ∷ Live on_257 0 ∷ [])
    ≡ record { cells = Live on_256 0 ∷ Dropped ∷ Dropped ∷ Live on_257 0 ∷ []; ended = Some stopped }
sliced = refl

-- cells that were dropped before have no number
sliced-packets : apply (slice_rule slices) (Dropped ∷ Live on_256 0 ∷ Dropped ∷ Live on_257 0 ∷ Live on_258 0 ∷ [])
    ≡ record { cells = Dropped ∷ Live on_256 0 ∷ Dropped ∷ Dropped ∷ Dropped ∷ []; ended = None }
sliced-packets = refl

-- the pattern begins again after its last byte
seven-repeated : repeated (1 ∷ 2 ∷ 3 ∷ []) 7 ≡ 1 ∷ 2 ∷ 3 ∷ 1 ∷ 2 ∷ 3 ∷ 1 ∷ []
unfolding repeated
seven-repeated = refl

-- `pattern 0102 --offset-pusi 181 --offset-non-pusi 183`: payloads begin at 4 in these packets
abbrev patterns : PatternConf
patterns = record { operand = 1 ∷ 2 ∷ []; pid = []; negate = false; offset_pusi = Some 181; offset_non_pusi = Some 183 }

patterned-start : (apply (pattern_rule patterns) (Live (on_257 ++ replicate 184 0) 0 ∷ [])).cells ≡ Live (on_257 ++ (replicate 181 0 ++ 1 ∷ 2 ∷ 1 ∷ [])) 0 ∷ []
unfolding field bit_of adaptation_length_of payload_start_of repeated
patterned-start = refl

patterned-other : (apply (pattern_rule patterns) (Live (on_256 ++ replicate 184 0) 0 ∷ [])).cells ≡ Live (on_256 ++ (replicate 183 0 ++ 1 ∷ [])) 0 ∷ []
unfolding field bit_of adaptation_length_of payload_start_of repeated
patterned-other = refl

-- after an adaptation field of two bytes the place is after the packet's end, and a field alone has no payload
behind-end : (apply (pattern_rule patterns) (Live (0x47 ∷ 0x01 ∷ 0x00 ∷ 0x30 ∷ 2 ∷ replicate 183 0) 0 ∷ [])).cells ≡ Live (0x47 ∷ 0x01 ∷ 0x00 ∷ 0x30 ∷ 2 ∷ replicate 183 0) 0 ∷ []
unfolding field bit_of adaptation_length_of payload_start_of repeated
behind-end = refl

no-payload : (apply (pattern_rule patterns) (Live (0x47 ∷ 0x01 ∷ 0x00 ∷ 0x20 ∷ 183 ∷ replicate 183 0) 0 ∷ [])).cells ≡ Live (0x47 ∷ 0x01 ∷ 0x00 ∷ 0x20 ∷ 183 ∷ replicate 183 0) 0 ∷ []
unfolding field bit_of adaptation_length_of payload_start_of repeated
no-payload = refl

-- two options of `slice` with one number
same-numbers : slices_differ (record { drop = Some 1; null = None; pass = Some 1; stop = None; milliseconds = false; pcr_pid = None }) ≡ false
same-numbers = refl

-- `skip` takes 2^40 packets
most-skipped : IsValidSkip (record { operand = 1099511627776 })
most-skipped = record { bounded = lit≤ tt }
