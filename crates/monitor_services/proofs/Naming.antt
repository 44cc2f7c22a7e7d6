-- Lemmas on which keys are named and occur, with one packet more.
use Rattle.std.proofs.Common.{◌≡◌, ℕ, List, [], ◌∷◌, ◌++◌, length, filter, ap, sym, ◌∙◌, append-nil, append_assoc, Bool, true, false, ◌==◌, not, if◌then◌else◌, refl, Option}
use Rattle.std.specs.Prelude.{None}
use Rattle.std.specs.List.{flat_map}
use Rattle.std.proofs.lemmas.Bool.{and_right}
use Rattle.std.proofs.lemmas.Grind.{flat_map-append}
use Rattle.ts_packet.specs.declared.cell.Cell.{Cell}
use Rattle.ts_packet.specs.declared.numbers.TheConstants.{NULL_PID}
use Rattle.ts_packet.specs.Cells.{Dropped, Live, live_packets, packet_in}
use Rattle.ts_packet.specs.Header.{pid_of}
use Rattle.ts_demux.specs.TakenWhere.{taken_on}
use Rattle.ts_table_rows.specs.TableValues.{TableHolding}
use Rattle.plugin_notes.specs.PidPackets.{numbers_below}
use Rattle.plug_psi.specs.InForce.{current_pat, follows, names, pat_of, services_in}
use Rattle.plug_psi.specs.SameForce.{SameInForce}
use Rattle.plug_psi.proofs.ForceLemmas.{pat-other}
use Rattle.plug_psi.proofs.FoundLemmas.{found-none}
use Rattle.monitor_keys.specs.declared.key_limit.KeyLimit.{KeyLimit}
use Rattle.monitor_keys.specs.declared.span.Span.{Span}
use Rattle.monitor_keys.specs.Keys.{span_on}
use Rattle.monitor_keys.specs.Looks.{is_look}
use Rattle.monitor_tables.specs.TableIds.{is_scrambled, sections_with}
use Rattle.monitor_lines.specs.declared.monitor_error.MonitorError.{MonitorError}
use Rattle.monitor_rows.specs.declared.key_row.KeyRow.{KeyRow}
use Rattle.monitor_rows.specs.declared.row_gap.RowGap.{RowGap}
use Rattle.monitor_rows.specs.KeyRows.{RowRule, has_number}
use Rattle.monitor_rows.specs.RowStands.{AreOccurring, HasKeys, IsRow, SameNames}
use Rattle.monitor_rows.proofs.Rowing.{names_stay}
use Rattle.monitor_services.specs.GapErrors.{gap_errors}
use Rattle.monitor_services.specs.PidErrors.{is_one, pid_if, pid_rule, pids_by, pids_named, pids_of, tells_ends}
use Rattle.monitor_services.specs.PmtErrors.{pat_numbers, pmt_rule, pmts_come, pmts_named, scrambled_error, scrambled_errors, section_number}
use Rattle.monitor_services.specs.declared.limits.TheConstants.{PMT_NUMBERS}
use Rattle.monitor_services.specs.declared.pid_kind.PidKind.{PidKind}
use Rattle.monitor_services.specs.declared.row_kind.RowKind.{RowKind}

-- ---- the live packets of cells with one more

pub live-more : (history : List Cell) (packet : List ℕ) (labels : ℕ) → live_packets (history ++ Live packet labels ∷ []) ≡ live_packets history ++ packet ∷ []
live-more history packet labels = flat_map-append packet_in history (Live packet labels ∷ [])

pub dropped-more : (history : List Cell) → live_packets (history ++ Dropped ∷ []) ≡ live_packets history
dropped-more history = flat_map-append packet_in history (Dropped ∷ []) ∙ append-nil (live_packets history)

-- the position of a packet after a history
pub place-of : (span : Span) (pid : Option ℕ) (history : List Cell) (packet : List ℕ) → span ≡ span_on pid history packet → span.at ≡ length history
place-of span pid history packet is = ap (λ (s : Span). s.at) is

-- ---- before any packet

no-pat : pat_of [] ≡ None
unfolding pat_of
no-pat = found-none current_pat 0

pub no-pmts-named : (n : ℕ) → pmts_named [] n ≡ false
no-pmts-named n = ap (λ (pat : Option TableHolding). has_number (pat_numbers pat) n) no-pat

pub no-pids-named : (kind : PidKind) (n : ℕ) → has_number (pids_named kind []) n ≡ false
no-pids-named kind n = ap (λ (pat : Option TableHolding). has_number (flat_map (pids_by kind []) (services_in pat)) n) no-pat

-- ---- PMTs

-- with a packet on another PID than 0 the PAT in force names the same ones
pub pmts-stay : (pcr_pid : Option ℕ) (keys : KeyRow) (history : List Cell) (packet : List ℕ) (labels : ℕ) → IsRow (pmt_rule pcr_pid) keys history
    → (pid_of packet == 0) ≡ false → HasKeys (pmt_rule pcr_pid) keys history (history ++ Live packet labels ∷ [])
pmts-stay pcr_pid keys history packet labels has other =
    names_stay (pmt_rule pcr_pid) keys history packet labels has
    (λ n less. ap (λ (pat : Option TableHolding). has_number (pat_numbers pat) n) (pat-other (live_packets history) packet other))

-- those that a PAT names are those that the PAT in force names, where it is this one
pub pmts-are : (fed : List (List ℕ)) (numbers : List ℕ) (pat : Option TableHolding)
    → numbers ≡ filter (has_number (pat_numbers pat)) (numbers_below PMT_NUMBERS) → pat ≡ pat_of fed
    → numbers ≡ filter (pmts_named fed) (numbers_below PMT_NUMBERS)
pmts-are fed numbers pat are is =
    are ∙ ap (λ (p : Option TableHolding). filter (has_number (pat_numbers p)) (numbers_below PMT_NUMBERS)) is

-- on PID 8191 there are none
pub null-unfollowed : (fed : List (List ℕ)) (pid : ℕ) → (pid == NULL_PID) ≡ true → follows pid fed ≡ false
null-unfollowed fed pid null = and_right (names (pat_of fed) pid) (not (pid == NULL_PID)) (ap not null)

-- sections come with a packet on the PID of a PMT, and with no other one
pub pmts-of : (fed : List (List ℕ)) (packet : List ℕ) (sections : List (List ℕ)) (came : List ℕ) (pid : ℕ) → pid ≡ pid_of packet
    → follows (pid_of packet) (fed ++ packet ∷ []) ≡ true
    → sections ≡ sections_with (pid_of packet) (taken_on follows (pid_of packet) fed) packet → came ≡ flat_map (section_number pid) sections
    → came ≡ pmts_come fed packet
pmts-of fed packet sections came pid at followed are is =
    is
    ∙ (ap (λ (p : ℕ). flat_map (section_number p) sections) at
    ∙ ap (flat_map (section_number (pid_of packet)))
    (are
    ∙ sym (ap (λ (b : Bool). if b then sections_with (pid_of packet) (taken_on follows (pid_of packet) fed) packet else []) followed)))

pub no-pmts : (fed : List (List ℕ)) (packet : List ℕ) → follows (pid_of packet) (fed ++ packet ∷ []) ≡ false → [] ≡ pmts_come fed packet
no-pmts fed packet unfollowed =
    sym (ap (λ (b : Bool). flat_map (section_number (pid_of packet)) (if b then sections_with (pid_of packet) (taken_on follows (pid_of packet) fed) packet else [])) unfollowed)

-- ---- PIDs that PMTs name

-- the same tables name the same ones
flat-same : {A B : Type 0} (f g : A → List B) (xs : List A) → ((x : A) → f x ≡ g x) → flat_map f xs ≡ flat_map g xs
flat-same f g [] same = refl
flat-same f g (x ∷ xs) same = ap (λ (ys : List _). ys ++ flat_map f xs) (same x) ∙ ap (λ (ys : List _). g x ++ ys) (flat-same f g xs same)

pub pids-same : (kind : PidKind) (fed : List (List ℕ)) (packet : List ℕ) → SameInForce fed packet
    → pids_named kind (fed ++ packet ∷ []) ≡ pids_named kind fed
pids-same kind fed packet same =
    ap (λ (pat : Option TableHolding). flat_map (pids_by kind (fed ++ packet ∷ [])) (services_in pat)) same.pat
    ∙ flat-same (pids_by kind (fed ++ packet ∷ [])) (pids_by kind fed) (services_in (pat_of fed)) (λ service. ap (pids_of kind) (same.pmts service.0))

-- the limit of a row of them
abbrev pub limit-of : ℕ → Bool → KeyLimit
limit-of units ends = record { units = units; tells_ends = ends }

pub limit-is : (kind : PidKind) (units : ℕ) (pcr_pid : Option ℕ) (ends : Bool) → ends ≡ tells_ends kind → (pid_rule kind units pcr_pid).limit ≡ limit-of units ends
limit-is kind units pcr_pid ends is = ap (limit-of units) (sym is)

pub pids-stay : (kind : PidKind) (units : ℕ) (pcr_pid : Option ℕ) (keys : KeyRow) (history : List Cell) (packet : List ℕ) (labels : ℕ)
    → IsRow (pid_rule kind units pcr_pid) keys history → SameInForce (live_packets history) packet
    → HasKeys (pid_rule kind units pcr_pid) keys history (history ++ Live packet labels ∷ [])
pids-stay kind units pcr_pid keys history packet labels has same =
    names_stay (pid_rule kind units pcr_pid) keys history packet labels has
    (λ n less. ap (λ (pids : List ℕ). has_number pids n) (pids-same kind (live_packets history) packet same))

-- with a packet on which none of its keys occurs
pub no-key : (packet : List ℕ) (is : Bool) (n : ℕ) → is ≡ false → has_number [] n ≡ has_number (pid_if is packet) n
no-key packet is n none = sym (ap (λ (b : Bool). has_number (pid_if b packet) n) none)

-- ---- a packet on which no key of a row occurs, which has no PCR that is read, and with which the same tables are in force

module _ (history : List Cell) (packet : List ℕ) (labels : ℕ) (same : SameInForce (live_packets history) packet)
    (leaves : (rule : RowRule) (row : KeyRow) (history : List Cell) (packet : List ℕ) (labels : ℕ) → IsRow rule row history
    → is_look (span_on rule.pcr_pid history packet) ≡ false → SameNames rule history packet → AreOccurring rule history packet []
    → IsRow rule row (history ++ Live packet labels ∷ [])) where
  pub quiet-pids : (kind : PidKind) (units : ℕ) (pcr_pid : Option ℕ) (keys : KeyRow) → IsRow (pid_rule kind units pcr_pid) keys history
      → is_look (span_on pcr_pid history packet) ≡ false → is_one kind packet ≡ false
      → IsRow (pid_rule kind units pcr_pid) keys (history ++ Live packet labels ∷ [])
  quiet-pids kind units pcr_pid keys has no_look none =
      leaves (pid_rule kind units pcr_pid) keys history packet labels has no_look
      (λ n less. ap (λ (pids : List ℕ). has_number pids n) (pids-same kind (live_packets history) packet same))
      (λ n. no-key packet (is_one kind packet) n none)

  pub quiet-pmts : (pcr_pid : Option ℕ) (keys : KeyRow) → IsRow (pmt_rule pcr_pid) keys history
      → is_look (span_on pcr_pid history packet) ≡ false → follows (pid_of packet) (live_packets history ++ packet ∷ []) ≡ false
      → IsRow (pmt_rule pcr_pid) keys (history ++ Live packet labels ∷ [])
  quiet-pmts pcr_pid keys has no_look unfollowed =
      leaves (pmt_rule pcr_pid) keys history packet labels has no_look
      (λ n less. ap (λ (pat : Option TableHolding). has_number (pat_numbers pat) n) same.pat)
      (λ n. ap (λ (ns : List ℕ). has_number ns n) (no-pmts (live_packets history) packet unfollowed))

-- ---- errors

-- none where no gap is told
pub none-told : (kind : RowKind) (known : ℕ) (gaps : List RowGap) (errors : List MonitorError) → gaps ≡ [] → errors ≡ errors ++ gap_errors kind known gaps
none-told kind known gaps errors none = sym (append-nil errors) ∙ ap (λ (gs : List RowGap). errors ++ gap_errors kind known gs) (sym none)

-- nor is an error of a scrambled packet, where that is on no PID of a PMT
pub none-scrambled : (history : List Cell) (packet : List ℕ) (errors : List MonitorError) → follows (pid_of packet) (live_packets history ++ packet ∷ []) ≡ false
    → errors ≡ errors ++ scrambled_errors history packet
none-scrambled history packet errors unfollowed =
    sym (append-nil errors)
    ∙ ap (λ (b : Bool). errors ++ (if b then scrambled_error (length history) (pid_of packet) ∷ [] else []))
    (sym (and_right (is_scrambled packet) (follows (pid_of packet) (live_packets history ++ packet ∷ [])) unfollowed))

-- those of the gaps that are told with a packet
pub told-of : (kind : RowKind) (known : ℕ) (told gaps : List RowGap) (history : List Cell) (old new : List MonitorError) → known ≡ length history
    → told ≡ gaps → new ≡ old ++ gap_errors kind known told → new ≡ old ++ gap_errors kind (length history) gaps
told-of kind known told gaps history old new here is added =
    added
    ∙ (ap (λ (n : ℕ). old ++ gap_errors kind n told) here ∙ ap (λ (gs : List RowGap). old ++ gap_errors kind (length history) gs) is)

-- and then others
pub told-then : (old gaps others now new : List MonitorError) → now ≡ old ++ gaps → new ≡ now ++ others → new ≡ old ++ (gaps ++ others)
told-then old gaps others now new first behind = behind ∙ (ap (λ (es : List MonitorError). es ++ others) first ∙ append_assoc old gaps others)
