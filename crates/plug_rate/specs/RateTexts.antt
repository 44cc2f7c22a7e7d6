-- The lines and the summary of `rate`. This project's own rule.
use Rattle.std.specs.Prelude.{ℕ, List, [], ◌∷◌, ◌++◌, codes, length, map, nat_lt, Option, None, Some, if◌then◌else◌}
use Rattle.std.specs.Fmt.{decimal}
use Rattle.std.specs.List.{reduce}
use Rattle.plugin_trait.specs.declared.line.Line.{Line}
use Rattle.plugin_trait.specs.PlacedLines.{placed_at}
use Rattle.plug_rate.specs.declared.judged.Judged.{Judged}
use Rattle.plug_rate.specs.declared.measure.Measure.{Measure}
use Rattle.plug_rate.specs.declared.verdict.Verdict.{Verdict}
use Rattle.plug_rate.specs.declared.verdict.Verdict.TheVariants.{Unbounded, Within, Again, Low, High}

-- what stands at the end of a line; where bounds are given there is none for a rate within them, but for the first one
abbrev pub ending_of : Verdict → Option (List ℕ)
ending_of Unbounded = Some []
ending_of Within = None
ending_of Again = Some (codes " again")
ending_of Low = Some (codes " low")
ending_of High = Some (codes " high")

-- the line: `packet <n> time <ms> bitrate <b>`, and what stands at its end
abbrev pub measure_text : Measure → List ℕ → List ℕ
measure_text measure ending = codes "packet " ++ (decimal measure.at ++ (codes " time " ++ (decimal measure.time
    ++ (codes " bitrate " ++ (decimal measure.bitrate ++ ending)))))

-- that line, where there is one
abbrev pub ended_texts : Measure → Option (List ℕ) → List (List ℕ)
ended_texts measure None = []
ended_texts measure (Some ending) = measure_text measure ending ∷ []

abbrev pub texts_of : Judged → List (List ℕ)
texts_of judged = ended_texts judged.measure (ending_of judged.verdict)

-- the line at the position of the packet
abbrev pub lines_of_judged : Judged → List Line
lines_of_judged judged = placed_at judged.measure.at (texts_of judged)

-- the lesser and the greater of two numbers
abbrev pub lesser : ℕ → ℕ → ℕ
lesser m n = if nat_lt n m then n else m

abbrev pub greater : ℕ → ℕ → ℕ
greater m n = if nat_lt m n then n else m

-- the bit rate
abbrev pub bitrate_of : Judged → ℕ
bitrate_of judged = judged.measure.bitrate

-- the least and the greatest rate, where there is one
abbrev pub least_rate : List Judged → Option ℕ
least_rate measures = reduce lesser (map bitrate_of measures)

abbrev pub greatest_rate : List Judged → Option ℕ
greatest_rate measures = reduce greater (map bitrate_of measures)

-- a number, or `none`
abbrev pub number_or_none : Option ℕ → List ℕ
number_or_none None = codes "none"
number_or_none (Some n) = decimal n

-- `measured <n> least <b> greatest <b>`
abbrev pub summary_text : ℕ → Option ℕ → Option ℕ → List ℕ
summary_text count least most = codes "measured " ++ (decimal count ++ (codes " least " ++ (number_or_none least
    ++ (codes " greatest " ++ number_or_none most))))

abbrev pub summary_of_rates : List Judged → List ℕ
summary_of_rates measures = summary_text (length measures) (least_rate measures) (greatest_rate measures)
