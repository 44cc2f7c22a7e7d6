-- Worked rows of the errors of a packet.
use Rattle.std.proofs.Common.{◌≡◌, [], ◌∷◌, map, true, false, refl}
use Rattle.ts_bit_rows.specs.BitRow.{bit_of, field}
use Rattle.ts_packet.specs.Cells.{Dropped}
use Rattle.monitor_counters.specs.declared.counter_error.CounterError.TheVariants.{Wrong, Repeated}
use Rattle.monitor_lines.specs.declared.detail.Detail.TheVariants as detail
use Rattle.monitor_lines.specs.declared.indicator.Indicator.TheVariants as indicator
use Rattle.monitor_pcrs.specs.declared.pcr_error.PcrError.TheVariants.{Step, Accuracy}
use Rattle.monitor_priorities.specs.RowErrors.{counter_error, here, pcr_error, transport_errors}
use Rattle.monitor_priorities.specs.WrongTables.{has_tables}

-- CRCs are looked at on the PIDs of PAT, CAT, NIT, SDT, EIT and TOT, whatever tables are in force: not on that of RSTs
pids_of_tables : map has_tables (0 ∷ 1 ∷ 2 ∷ 16 ∷ 17 ∷ 18 ∷ 19 ∷ 20 ∷ 21 ∷ []) ≡ true ∷ true ∷ false ∷ true ∷ true ∷ true ∷ false ∷ true ∷ false ∷ []
pids_of_tables = refl

-- a step of 0 is 2.3, and one that is off is 2.4
of_steps : map (pcr_error 6 256) (Step 0 ∷ Accuracy 1037 ∷ [])
    ≡ here indicator.Pcr 6 (detail.Step 256 0) ∷ here indicator.Accuracy 6 (detail.Off 256 1037) ∷ []
of_steps = refl

-- both errors of a counter are 1.4
of_counters : map (counter_error 6 256) (Wrong 3 2 ∷ Repeated ∷ [])
    ≡ here indicator.Counter 6 (detail.Wrong 256 3 2) ∷ here indicator.Counter 6 (detail.Repeated 256) ∷ []
of_counters = refl

-- behind a dropped cell: the transport_error_indicator of a packet on PID 256, and a packet without it
of_indicators : transport_errors (Dropped ∷ []) (71 ∷ 129 ∷ 0 ∷ 16 ∷ []) ≡ here indicator.Transport 1 (detail.OnPid 256) ∷ []
unfolding field bit_of
of_indicators = refl

none_without : transport_errors (Dropped ∷ []) (71 ∷ 1 ∷ 0 ∷ 16 ∷ []) ≡ []
unfolding field bit_of
none_without = refl
