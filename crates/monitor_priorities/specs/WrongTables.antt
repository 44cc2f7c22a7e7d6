-- Sections with a wrong CRC, and the PIDs on which they are looked for: ETSI TR 101 290, 5.2.2 (2.2 CRC_error), over the PIDs of
-- tables of ISO/IEC 13818-1, 2.4.3.3, and ETSI EN 300 468, 5.1.3.
use Rattle.std.specs.Prelude.{ℕ, ◌==◌, ◌||◌, Bool, List, [], ◌∷◌, ◌++◌, drop, length, if◌then◌else◌}
use Rattle.std.specs.List.{list_any}
use Rattle.ts_packet.specs.Header.{pid_of}
use Rattle.ts_demux.specs.TakenWhere.{taken_on}
use Rattle.plug_psi.specs.InForce.{follows}
use Rattle.monitor_crcs.specs.ReaderState.{StandsFor}
use Rattle.monitor_crcs.specs.WrongCrcs.{told_of_pid}
use Rattle.monitor_priorities.specs.declared.crc_reader.CrcReader.{CrcReader}

-- tables whose CRC is looked at come on the PID, whatever tables are in force: PAT, CAT, NIT, SDT and BAT, EIT, TOT
abbrev pub has_tables : ℕ → Bool
has_tables pid = list_any (λ n. pid == n) (0 ∷ 1 ∷ 16 ∷ 17 ∷ 18 ∷ 20 ∷ [])

-- they do so at the last of some packets of any PID: on one of these, or on that of a PMT by the PAT in force there
abbrev pub is_read : ℕ → List (List ℕ) → Bool
is_read pid packets = has_tables pid || follows pid packets

-- the table_ids of what would be sections of a PID but for their CRCs, that come with a packet after the packets taken on it
abbrev pub told_with : ℕ → List (List ℕ) → List ℕ → List ℕ
told_with pid taken packet = drop (length (told_of_pid pid taken)) (told_of_pid pid (taken ++ packet ∷ []))

-- those that come with a packet after packets of any PID
abbrev pub wrong_with : List (List ℕ) → List ℕ → List ℕ
wrong_with fed packet =
    if is_read (pid_of packet) (fed ++ packet ∷ [])
    then told_with (pid_of packet) (taken_on is_read (pid_of packet) fed) packet
    else []

-- a reader was fed the packets taken on a PID, and all table_ids were given
abbrev pub HasTold : CrcReader → ℕ → List (List ℕ) → Type 0
HasTold reader pid taken = StandsFor reader.crcs pid taken (told_of_pid pid taken)
