-- Worked rows of the summary, of the priorities that are asked for, and of counts.
use Rattle.std.proofs.Common.{◌≡◌, ℕ, [], ◌∷◌, length, map, codes, None, Option, refl}
use Rattle.std.specs.Fmt.{digits}
use Rattle.monitor_lines.specs.Indicators.{indicators}
use Rattle.monitor_lines.specs.declared.detail.Detail.TheVariants.{OnPid, Scrambled}
use Rattle.monitor_lines.specs.declared.indicator.Indicator.TheVariants.{Accuracy, Pat, Pcr, Transport}
use Rattle.plug_monitor.specs.Counting.{count_of}
use Rattle.plug_monitor.specs.MonitorTexts.{counts_in, summary_texts}
use Rattle.plug_monitor.specs.declared.monitor_conf.MonitorConf.{MonitorConf}

asked : ℕ → Option ℕ → MonitorConf
asked priority bitrate = record { priority = priority; bitrate = bitrate; pid_gap = 5000; pcr_pid = None }

-- each indicator of priority 1 has its line, with none too, and the last line is the sum
first_alone : summary_texts (asked 1 None) (count_of (record { known = 3; at = 3; indicator = Pat; detail = Scrambled } ∷ [])) 1
    ≡ codes "1.3 PAT_error 1" ∷ codes "1.4 Continuity_count_error 0" ∷ codes "1.5 PMT_error 0" ∷ codes "1.6 PID_error 0" ∷ codes "errors 1" ∷ []
unfolding digits asked
first_alone = refl

-- 2.4 has a line with a bit rate alone
with_a_rate : counts_in (asked 2 None) (λ _. 0) (Pcr ∷ Accuracy ∷ []) ≡ codes "2.3 PCR_error 0" ∷ []
unfolding digits asked
with_a_rate = refl

-- how many lines the priorities have, without a bit rate and with one
lines_of_each : map (λ priority. length (counts_in (asked priority None) (λ _. 0) indicators)) (1 ∷ 2 ∷ 3 ∷ []) ≡ 4 ∷ 9 ∷ 15 ∷ []
unfolding asked
lines_of_each = refl

-- errors of two indicators are counted apart
counted_apart : map (count_of (record { known = 3; at = 3; indicator = Pat; detail = Scrambled } ∷ record { known = 4; at = 4; indicator = Transport; detail = OnPid 7 } ∷ []))
    (Pat ∷ Transport ∷ Pcr ∷ []) ≡ 1 ∷ 1 ∷ 0 ∷ []
counted_apart = refl
