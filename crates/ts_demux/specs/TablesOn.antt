-- The tables that packets complete on a PID.
-- ISO/IEC 13818-1, 2.4.4.
use Rattle.std.specs.Prelude.{◌≡◌, ℕ, ◌==◌, List, [], ◌∷◌, ◌++◌, filter}
use Rattle.ts_packet.specs.Header.{pid_of}
use Rattle.ts_demux.specs.Tables.{tables_of}
use Rattle.ts_demux.specs.SectionsOfPid.{sections_of_pid}

-- the packets on a PID, of packets of any PID
abbrev pub packets_on : ℕ → List (List ℕ) → List (List ℕ)
packets_on pid packets = filter (λ packet. pid_of packet == pid) packets

-- the tables that packets of any PID complete on one
abbrev pub tables_on : ℕ → List (List ℕ) → List (List (List ℕ))
tables_on pid packets = tables_of (sections_of_pid pid packets)

-- the tables that a packet completes on a PID, after the packets that were taken before
abbrev pub Completes : ℕ → List (List ℕ) → List ℕ → List (List (List ℕ)) → Type 0
Completes pid taken packet tables = tables_on pid (taken ++ packet ∷ []) ≡ tables_on pid taken ++ tables
