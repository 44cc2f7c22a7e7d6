-- The indicators of errors: ETSI TR 101 290, 5.2.1 to 5.2.3, by their numbers and names, those of the priorities 1, 2 and 3 that
-- packets tell of.
use Rattle.std.specs.Prelude.{ℕ, List, [], ◌∷◌, codes}
use Rattle.monitor_lines.specs.declared.indicator.Indicator.{Indicator}
use Rattle.monitor_lines.specs.declared.indicator.Indicator.TheVariants.{Pat, Counter, Pmt, Pid, Transport, Crc, Pcr, Accuracy, Pts, Cat, Nit, Unreferenced, Sdt, Eit, Rst, Tdt}

-- number and name
abbrev pub title_of : Indicator → List ℕ
title_of Pat = codes "1.3 PAT_error"
title_of Counter = codes "1.4 Continuity_count_error"
title_of Pmt = codes "1.5 PMT_error"
title_of Pid = codes "1.6 PID_error"
title_of Transport = codes "2.1 Transport_error"
title_of Crc = codes "2.2 CRC_error"
title_of Pcr = codes "2.3 PCR_error"
title_of Accuracy = codes "2.4 PCR_accuracy_error"
title_of Pts = codes "2.5 PTS_error"
title_of Cat = codes "2.6 CAT_error"
title_of Nit = codes "3.1 NIT_error"
title_of Unreferenced = codes "3.4 Unreferenced_PID"
title_of Sdt = codes "3.5 SDT_error"
title_of Eit = codes "3.6 EIT_error"
title_of Rst = codes "3.7 RST_error"
title_of Tdt = codes "3.8 TDT_error"

-- its priority, which is the first part of its number
abbrev pub priority_of : Indicator → ℕ
priority_of Pat = 1
priority_of Counter = 1
priority_of Pmt = 1
priority_of Pid = 1
priority_of Transport = 2
priority_of Crc = 2
priority_of Pcr = 2
priority_of Accuracy = 2
priority_of Pts = 2
priority_of Cat = 2
priority_of Nit = 3
priority_of Unreferenced = 3
priority_of Sdt = 3
priority_of Eit = 3
priority_of Rst = 3
priority_of Tdt = 3

-- all of them, in the order of their numbers
abbrev pub indicators : List Indicator
indicators = Pat ∷ Counter ∷ Pmt ∷ Pid ∷ Transport ∷ Crc ∷ Pcr ∷ Accuracy ∷ Pts ∷ Cat ∷ Nit ∷ Unreferenced ∷ Sdt ∷ Eit ∷ Rst ∷ Tdt ∷ []
