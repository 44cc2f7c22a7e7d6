-- Lemmas on the table_ids that a reader of wrong CRCs gives.
use Rattle.std.proofs.Common.{◌≡◌, ℕ, List, [], ◌∷◌, ◌++◌, length, drop, map, ap, ap₂, sym, subst, ◌∙◌, refl, append-nil, append_assoc, Bool, true, false, ◌||◌, ◌==◌, if◌then◌else◌}
use Rattle.std.proofs.lemmas.Bool.{eqb-true}
use Rattle.std.proofs.Math.Seq.{drop-append_seam}
use Rattle.monitor_crcs.specs.ReaderState.{ReaderState, StandsFor}
use Rattle.monitor_crcs.specs.WrongCrcs.{told_of_parts, told_of_pid}
use Rattle.monitor_lines.specs.declared.monitor_error.MonitorError.{MonitorError}
use Rattle.monitor_services.proofs.Naming.{null-unfollowed}
use Rattle.ts_demux.specs.TakenWhere.{taken_on}
use Rattle.ts_packet.specs.Cells.{live_packets}
use Rattle.ts_packet.specs.Header.{pid_of}
use Rattle.ts_packet.specs.declared.cell.Cell.{Cell}
use Rattle.ts_packet.specs.declared.numbers.TheConstants.{NULL_PID}
use Rattle.monitor_priorities.specs.RowErrors.{crc_error, crc_errors}
use Rattle.monitor_priorities.specs.WrongTables.{has_tables, is_read, told_with, wrong_with}
use Rattle.monitor_priorities.proofs.Chaining.{told-on}

-- of nothing that was fed none is told
no_tables : (pid : ℕ) → told_of_pid pid [] ≡ []
unfolding told_of_parts
no_tables pid = refl

-- nothing was fed
pub told_none : (crcs : ReaderState) (pid : ℕ) → StandsFor crcs pid [] [] → StandsFor crcs pid [] (told_of_pid pid [])
told_none crcs pid stands = subst (StandsFor crcs pid []) (sym (no_tables pid)) stands

-- one more was given
pub given_more : (crcs : ReaderState) (pid : ℕ) (fed : List (List ℕ)) (given tables more : List ℕ) (table : ℕ) → more ≡ tables ++ table ∷ []
    → StandsFor crcs pid fed ((given ++ tables) ++ table ∷ []) → StandsFor crcs pid fed (given ++ more)
given_more crcs pid fed given tables more table is stands =
    subst (StandsFor crcs pid fed) (append_assoc given tables (table ∷ []) ∙ ap (λ (ts : List ℕ). given ++ ts) (sym is)) stands

-- all were given
pub all_given : (crcs : ReaderState) (pid : ℕ) (fed : List (List ℕ)) (given : List ℕ) → crcs.waiting ≡ [] → StandsFor crcs pid fed given → told_of_pid pid fed ≡ given
all_given crcs pid fed given none stands = stands.told ∙ (ap (λ (ts : List ℕ). given ++ ts) none ∙ append-nil given)

-- with a packet more
pub with_more : (pid : ℕ) (fed : List (List ℕ)) (packet tables : List ℕ)
    → told_of_pid pid (fed ++ packet ∷ []) ≡ told_of_pid pid fed ++ tables → tables ≡ told_with pid fed packet
with_more pid fed packet tables is =
    sym (ap (drop (length (told_of_pid pid fed))) is ∙ drop-append_seam (told_of_pid pid fed) tables)

-- ---- of packets of any PID

-- on PID 8191 there are none
pub null-unread : (fed : List (List ℕ)) (pid : ℕ) → (pid == NULL_PID) ≡ true → is_read pid fed ≡ false
null-unread fed pid null =
    ap₂ (λ (a b : Bool). a || b) (ap has_tables (eqb-true pid NULL_PID null)) (null-unfollowed fed pid null)

-- a packet that is not read has no errors
pub none-told : (history : List Cell) (packet : List ℕ) (before : List MonitorError) → is_read (pid_of packet) (live_packets history ++ packet ∷ []) ≡ false
    → before ≡ before ++ crc_errors history packet
none-told history packet before unread =
    sym (ap (λ (ids : List ℕ). before ++ map (crc_error (length history) (pid_of packet)) ids)
    (ap (λ (b : Bool). if b then told_with (pid_of packet) (taken_on is_read (pid_of packet) (live_packets history)) packet else []) unread)
    ∙ append-nil before)

-- one that is read has those that are told with it
pub some-told : (history : List Cell) (packet : List ℕ) (before after : List MonitorError) (at pid : ℕ) (tables : List ℕ) → length history ≡ at → pid ≡ pid_of packet
    → is_read (pid_of packet) (live_packets history ++ packet ∷ []) ≡ true
    → tables ≡ told_with (pid_of packet) (taken_on is_read (pid_of packet) (live_packets history)) packet
    → after ≡ before ++ map (crc_error at pid) tables → after ≡ before ++ crc_errors history packet
some-told history packet before after at pid tables here on read are told =
    told-on crc_error before after at (length history) pid (pid_of packet) tables (wrong_with (live_packets history) packet) (sym here) on
    (are ∙ sym (ap (λ (b : Bool). if b then told_with (pid_of packet) (taken_on is_read (pid_of packet) (live_packets history)) packet else []) read))
    told
