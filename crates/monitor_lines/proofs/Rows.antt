-- Worked rows of the lines of errors.
use Rattle.std.proofs.Common.{◌≡◌, [], ◌∷◌, map, filter, length, codes, ◌==◌, refl}
use Rattle.std.specs.Fmt.{digits}
use Rattle.monitor_lines.specs.ErrorTexts.{count_text, text_of_error}
use Rattle.monitor_lines.specs.Indicators.{indicators, priority_of, title_of}
use Rattle.monitor_lines.specs.declared.detail.Detail.TheVariants.{Gap, Wrong, Off}
use Rattle.monitor_lines.specs.declared.indicator.Indicator.TheVariants as indicator
use Rattle.monitor_lines.specs.declared.missing.Missing.TheVariants as missing

a_gap : text_of_error (record { known = 8; at = 6; indicator = indicator.Pat; detail = Gap missing.Pat 530 })
    ≡ codes "packet 6 1.3 PAT_error no PAT for 530 ms"
unfolding digits
a_gap = refl

of_a_service : text_of_error (record { known = 5; at = 5; indicator = indicator.Eit; detail = Gap (missing.Eit 7 1) 2001 })
    ≡ codes "packet 5 3.6 EIT_error no EIT 7 section 1 for 2001 ms"
unfolding digits
of_a_service = refl

a_counter : text_of_error (record { known = 6; at = 6; indicator = indicator.Counter; detail = Wrong 300 4 3 })
    ≡ codes "packet 6 1.4 Continuity_count_error pid 300 counter 4 wanted 3"
unfolding digits
a_counter = refl

accuracy : text_of_error (record { known = 30; at = 30; indicator = indicator.Accuracy; detail = Off 256 1037 })
    ≡ codes "packet 30 2.4 PCR_accuracy_error pid 256 off 1037"
unfolding digits
accuracy = refl

-- how many indicators each priority has
by_priority : map (λ n. length (filter (λ i. priority_of i == n) indicators)) (1 ∷ 2 ∷ 3 ∷ []) ≡ 4 ∷ 6 ∷ 6 ∷ []
by_priority = refl

a_count : count_text (title_of indicator.Tdt) 2 ≡ codes "3.8 TDT_error 2"
unfolding digits
a_count = refl
