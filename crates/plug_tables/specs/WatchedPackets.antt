-- The packets of a PID that `tables` watches, and the tables that they complete. This project's own rule, over the PIDs of
-- ISO/IEC 13818-1, 2.4.4.2, and ETSI EN 300 468, 5.1.3.
use Rattle.std.specs.Prelude.{ℕ, List, [], ◌∷◌, ◌++◌, length, drop, Bool, true, not, ◌==◌, ◌&&◌, ◌||◌}
use Rattle.ts_packet.specs.Header.{pid_of}
use Rattle.ts_packet.specs.declared.numbers.TheConstants.{NULL_PID}
use Rattle.plugin_options.specs.NumberSet.{has_number}
use Rattle.ts_demux.specs.TablesOn.{tables_on}
use Rattle.ts_demux.specs.TakenWhere.{taken_on}
use Rattle.plug_psi.specs.InForce.{may_have_tables, names, pat_of}

-- which PIDs are watched: those that are listed, and whether also those of the PMTs that the PAT in force names
pub record Choice : Type 0 where
  pub listed : List (ℕ × ℕ)
  pub follows : Bool

-- without a list: PAT, CAT, NIT, SDT and EIT, and the PMTs
abbrev pub usual : Choice
usual = record { listed = (0, 1) ∷ (16, 18) ∷ []; follows = true }

-- Whether a PID is watched at the last of some packets of any PID: it is if it is listed, or, where PMTs are followed, if a
-- service of the PAT in force there has it. The PID of null packets never is. The packets on the PID for which this holds
-- are those that are watched.
abbrev pub is_watched : Choice → ℕ → List (List ℕ) → Bool
is_watched choice pid packets =
    (has_number choice.listed pid || (choice.follows && names (pat_of packets) pid)) && not (pid == NULL_PID)

-- whether a packet is read after some packets: tables in force may come with it, or it is watched
abbrev pub may_be_read : Choice → List (List ℕ) → List ℕ → Bool
may_be_read choice packets packet =
    may_have_tables (pid_of packet) packets || is_watched choice (pid_of packet) (packets ++ packet ∷ [])

-- the tables that the watched packets of a PID complete
abbrev pub watched_tables : Choice → ℕ → List (List ℕ) → List (List (List ℕ))
watched_tables choice pid packets = tables_on pid (taken_on (is_watched choice) pid packets)

-- the tables on a packet's PID that are complete with the packet, and were not without it
abbrev pub tables_with : Choice → List (List ℕ) → List ℕ → List (List (List ℕ))
tables_with choice packets packet =
    drop (length (watched_tables choice (pid_of packet) packets)) (watched_tables choice (pid_of packet) (packets ++ packet ∷ []))
