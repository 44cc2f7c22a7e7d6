-- The lines of errors. This project's own rule.
use Rattle.std.specs.Prelude.{ℕ, List, ◌++◌, codes}
use Rattle.std.specs.Fmt.{decimal}
use Rattle.plugin_trait.specs.declared.line.Line.{Line}
use Rattle.monitor_lines.specs.Indicators.{title_of}
use Rattle.monitor_lines.specs.declared.detail.Detail.{Detail}
use Rattle.monitor_lines.specs.declared.detail.Detail.TheVariants.{Gap, Table, Scrambled, ScrambledOn, Wrong, Repeated, OnPid, TableOn, Step, Off}
use Rattle.monitor_lines.specs.declared.missing.Missing.{Missing}
use Rattle.monitor_lines.specs.declared.missing.Missing.TheVariants.{Pat, Pmt, Packet, Pcr, Pts, Cat, Nit, Sdt, Eit, Tdt}
use Rattle.monitor_lines.specs.declared.monitor_error.MonitorError.{MonitorError}

-- what is missing
abbrev pub missing_text : Missing → List ℕ
missing_text Pat = codes "no PAT"
missing_text (Pmt service) = codes "no PMT of " ++ decimal service
missing_text (Packet pid) = codes "no packet on " ++ decimal pid
missing_text (Pcr pid) = codes "no PCR on " ++ decimal pid
missing_text (Pts pid) = codes "no PTS on " ++ decimal pid
missing_text Cat = codes "no CAT"
missing_text Nit = codes "no NIT"
missing_text Sdt = codes "no SDT"
missing_text (Eit service number) = codes "no EIT " ++ (decimal service ++ (codes " section " ++ decimal number))
missing_text Tdt = codes "no TDT"

-- what is wrong
abbrev pub detail_text : Detail → List ℕ
detail_text (Gap missing milliseconds) = missing_text missing ++ (codes " for " ++ (decimal milliseconds ++ codes " ms"))
detail_text (Table table) = codes "table_id " ++ decimal table
detail_text Scrambled = codes "scrambled"
detail_text (ScrambledOn pid) = codes "pid " ++ (decimal pid ++ codes " scrambled")
detail_text (Wrong pid counter wanted) = codes "pid " ++ (decimal pid ++ (codes " counter " ++ (decimal counter ++ (codes " wanted " ++ decimal wanted))))
detail_text (Repeated pid) = codes "pid " ++ (decimal pid ++ codes " repeated")
detail_text (OnPid pid) = codes "pid " ++ decimal pid
detail_text (TableOn pid table) = codes "pid " ++ (decimal pid ++ (codes " table_id " ++ decimal table))
detail_text (Step pid units) = codes "pid " ++ (decimal pid ++ (codes " step " ++ decimal units))
detail_text (Off pid nanoseconds) = codes "pid " ++ (decimal pid ++ (codes " off " ++ decimal nanoseconds))

-- `packet <position> <number> <name> <detail>`
abbrev pub text_of_error : MonitorError → List ℕ
text_of_error error = codes "packet " ++ (decimal error.at ++ (codes " " ++ (title_of error.indicator
    ++ (codes " " ++ detail_text error.detail))))

-- the line is at the position at which the error is known, which may be behind that of its packet
abbrev pub line_of_error : MonitorError → Line
line_of_error error = record { at = error.known; text = text_of_error error }

-- this position
abbrev pub place_of_error : MonitorError → ℕ
place_of_error error = error.known

-- the line of the summary on an indicator
abbrev pub count_text : List ℕ → ℕ → List ℕ
count_text title count = title ++ (codes " " ++ decimal count)
