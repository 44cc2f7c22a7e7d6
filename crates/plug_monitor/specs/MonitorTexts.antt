-- The summary of `monitor`. This project's own rule.
use Rattle.std.specs.Prelude.{ℕ, List, [], ◌∷◌, ◌++◌, Bool, true, false, ◌&&◌, ◌||◌, not, nat_le, is_some, codes, if◌then◌else◌}
use Rattle.std.specs.Fmt.{decimal}
use Rattle.std.specs.List.{flat_map}
use Rattle.monitor_lines.specs.ErrorTexts.{count_text}
use Rattle.monitor_lines.specs.Indicators.{indicators, priority_of, title_of}
use Rattle.monitor_lines.specs.declared.indicator.Indicator.{Indicator}
use Rattle.monitor_lines.specs.declared.indicator.Indicator.TheVariants.{Pat, Counter, Pmt, Pid, Transport, Crc, Pcr, Accuracy, Pts, Cat, Nit, Unreferenced, Sdt, Eit, Rst, Tdt}
use Rattle.plug_monitor.specs.declared.monitor_conf.MonitorConf.{MonitorConf}

-- PCR_accuracy_error, which needs a bit rate
abbrev pub is_accuracy : Indicator → Bool
is_accuracy Accuracy = true
is_accuracy _ = false

-- an indicator is asked for: it is of a priority that is, and has its bit rate where it needs one
abbrev pub is_asked : MonitorConf → Indicator → Bool
is_asked conf indicator =
    (not (is_accuracy indicator) || is_some conf.bitrate) && nat_le (priority_of indicator) conf.priority

-- the line of an indicator, where it is asked for, by how many errors there were of each
abbrev pub count_if : MonitorConf → (Indicator → ℕ) → Indicator → List (List ℕ)
count_if conf count indicator =
    if is_asked conf indicator then count_text (title_of indicator) (count indicator) ∷ [] else []

abbrev pub counts_in : MonitorConf → (Indicator → ℕ) → List Indicator → List (List ℕ)
counts_in conf count which = flat_map (count_if conf count) which

-- the indicators of each priority
abbrev pub first_indicators : List Indicator
first_indicators = Pat ∷ Counter ∷ Pmt ∷ Pid ∷ []

abbrev pub second_indicators : List Indicator
second_indicators = Transport ∷ Crc ∷ Pcr ∷ Accuracy ∷ Pts ∷ Cat ∷ []

abbrev pub third_indicators : List Indicator
third_indicators = Nit ∷ Unreferenced ∷ Sdt ∷ Eit ∷ Rst ∷ Tdt ∷ []

-- the line of all errors
abbrev pub all_text : ℕ → List ℕ
all_text count = codes "errors " ++ decimal count

-- `<number> <name> <count>` of each indicator, and `errors <count>`
abbrev pub summary_texts : MonitorConf → (Indicator → ℕ) → ℕ → List (List ℕ)
summary_texts conf count all = counts_in conf count indicators ++ all_text all ∷ []
