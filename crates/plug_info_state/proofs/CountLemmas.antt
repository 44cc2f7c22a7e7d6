-- Lemmas on the counts, cell by cell.
use Rattle.std.proofs.Common.{◌≡◌, ℕ, ◌<◌, ◌≤◌, ◌^◌, List, [], ◌∷◌, ◌++◌, length, map, filter, ap, sym, subst, ◌∙◌, refl, Bool, true, false, not, if◌then◌else◌, ◌==◌, append-nil, Option, None, Some, arith}
use Rattle.std.proofs.lemmas.Grind.{flat_map-append}
use Rattle.std.proofs.lemmas.List.{length-map, map-append}
use Rattle.std.proofs.lemmas.List.Elements.{filter-append}
use Rattle.std.proofs.lemmas.List.Sums.{count_by-le-length, length-filter}
use Rattle.ts_packet.specs.declared.cell.Cell.{Cell}
use Rattle.ts_packet.specs.declared.numbers.TheConstants.{NULL_PID}
use Rattle.ts_packet.specs.Cells.{Live, Dropped, live_packets, packet_in}
use Rattle.ts_packet.specs.Header.{counter_of, error_indicator_of, pid_of}
use Rattle.chain_model.specs.declared.positions.TheConstants.{POSITION_LIMIT}
use Rattle.plugin_notes.specs.declared.continuity_error.ContinuityError.{ContinuityError}
use Rattle.plugin_notes.specs.ContinuityErrors.{error_after, error_on, errors_in, place_of_error}
use Rattle.plugin_notes.specs.Counters.{is_fault, last_of, wanted_behind}
use Rattle.plugin_notes.specs.Notes.{notes_after}
use Rattle.plugin_notes.specs.Tallies.{HasRoomIn, IsCounted}
use Rattle.plugin_notes.specs.declared.tally.Tally.{Tally}
use Rattle.plugin_notes.proofs.Noting.{length-notes_after, notes_after-append}
use Rattle.plugin_notes.proofs.Remembering.{one_fault}
use Rattle.plug_analyze.specs.AnalyzeNotes.{is_any, is_fault_at}
use Rattle.plug_analyze.specs.AnalyzeRule.{all_pids, fault_pids, is_scrambled}
use Rattle.plug_info_state.specs.CountsOf.{AreCounted, HasRoom}
use Rattle.plug_info_state.specs.declared.packet_counts.PacketCounts.{PacketCounts}

-- the packets with one more cell
pub live-live : (history : List Cell) (packet : List ℕ) (labels : ℕ) → live_packets (history ++ Live packet labels ∷ []) ≡ live_packets history ++ packet ∷ []
live-live history packet labels = flat_map-append packet_in history (Live packet labels ∷ [])

pub live-dropped : (history : List Cell) → live_packets (history ++ Dropped ∷ []) ≡ live_packets history
live-dropped history = flat_map-append packet_in history (Dropped ∷ []) ∙ append-nil (live_packets history)

-- the PIDs of packets of one kind with one more packet
kind-more : (kind : List ℕ → Bool) (history : List Cell) (packet : List ℕ) (labels : ℕ)
    → map pid_of (filter kind (live_packets (history ++ Live packet labels ∷ []))) ≡ map pid_of (filter kind (live_packets history)) ++ (if kind packet then pid_of packet ∷ [] else [])
kind-more kind history packet labels =
    ap (λ (ps : List (List ℕ)). map pid_of (filter kind ps)) (live-live history packet labels)
    ∙ (ap (map pid_of) (filter-append kind (live_packets history) (packet ∷ []))
    ∙ (map-append pid_of (filter kind (live_packets history)) (filter kind (packet ∷ []))
    ∙ ap (λ (pids : List ℕ). map pid_of (filter kind (live_packets history)) ++ pids) (last (kind packet))))
  where
    last : (b : Bool) → map pid_of (if b then packet ∷ [] else []) ≡ (if b then pid_of packet ∷ [] else [])
    last true = refl
    last false = refl

-- a fault has the PID of its packet
fault_pid : (at : ℕ) (last : Option (List ℕ)) (packet : List ℕ) (w : Bool)
    → map (λ (e : ContinuityError). e.pid) (if w then error_after at last packet else []) ≡ (if is_any (if w then error_after at last packet else []) then pid_of packet ∷ [] else [])
fault_pid at last packet false = refl
fault_pid at None packet true = refl
fault_pid at (Some before) packet true =
    let fault : ContinuityError = record { at = at; pid = pid_of packet; counter = counter_of packet; wanted = wanted_behind before packet } in
    elim (is_fault before packet) as (λ b. map (λ (e : ContinuityError). e.pid) (if b then fault ∷ [] else []) ≡ (if is_any (if b then fault ∷ [] else []) then pid_of packet ∷ [] else [])) [
      | true ↦ refl
      | false ↦ refl
    ]

-- the PIDs of faults with one more packet
faults-more : (history : List Cell) (packet : List ℕ) (labels : ℕ)
    → fault_pids (history ++ Live packet labels ∷ []) ≡ fault_pids history ++ (if is_fault_at history packet then pid_of packet ∷ [] else [])
faults-more history packet labels =
    let pid_in : ContinuityError → ℕ = λ e. e.pid in
    ap (map pid_in) (notes_after-append (error_on all_pids) place_of_error (one_fault all_pids) [] history (Live packet labels ∷ []))
    ∙ (map-append pid_in (errors_in all_pids history) (error_on all_pids history packet ++ [])
    ∙ ap (λ (pids : List ℕ). fault_pids history ++ pids)
    (ap (map pid_in) (append-nil (error_on all_pids history packet))
    ∙ fault_pid (length history) (last_of (pid_of packet) history) packet (not (pid_of packet == NULL_PID))))

-- nor with a dropped cell
faults-dropped : (history : List Cell) → fault_pids (history ++ Dropped ∷ []) ≡ fault_pids history
faults-dropped history =
    let pid_in : ContinuityError → ℕ = λ e. e.pid in
    ap (map pid_in) (notes_after-append (error_on all_pids) place_of_error (one_fault all_pids) [] history (Dropped ∷ []) ∙ append-nil (errors_in all_pids history))

-- there are no more packets than cells
few_live : (cells : List Cell) → length (live_packets cells) ≤ length cells
few_live [] = omega arith
few_live (Live packet labels ∷ cells) = let rest : length (live_packets cells) ≤ length cells = few_live cells in omega arith
few_live (Dropped ∷ cells) = let rest : length (live_packets cells) ≤ length cells = few_live cells in omega arith

few_faults : (cells : List Cell) → length (fault_pids cells) ≤ length cells
few_faults cells =
    let notes : length (notes_after (error_on all_pids) [] cells) ≤ length cells = length-notes_after (error_on all_pids) place_of_error (one_fault all_pids) [] cells in
    omega (arith, notes, length-map (errors_in all_pids cells) (λ (e : ContinuityError). e.pid))

few_kind : (kind : List ℕ → Bool) (cells : List Cell) → length (map pid_of (filter kind (live_packets cells))) ≤ length cells
few_kind kind cells =
    let live = few_live cells in
    omega (arith, live, length-map (filter kind (live_packets cells)) pid_of, length-filter kind (live_packets cells), count_by-le-length kind (live_packets cells))

-- one more packet can be counted
room_in : (tally : Tally) (pids : List ℕ) → IsCounted tally pids → length pids < 2 ^ 63 → HasRoomIn tally
room_in tally pids t few = record { pids = pids; tally = t; few = few }

pub has_room : (counts : PacketCounts) (cells : List Cell) → AreCounted counts cells → length cells < POSITION_LIMIT → HasRoom counts
has_room counts cells t few = record {
  packets = room_in counts.packets _ t.packets (omega (arith, few, few_live cells, length-map (live_packets cells) pid_of));
  scrambled = room_in counts.scrambled _ t.scrambled (omega (arith, few, few_kind is_scrambled cells));
  faults = room_in counts.faults _ t.faults (omega (arith, few, few_faults cells));
  errored = room_in counts.errored _ t.errored (omega (arith, few, few_kind error_indicator_of cells));
}

-- a dropped cell is not counted
pub counted_dropped : (counts : PacketCounts) (cells : List Cell) → AreCounted counts cells → AreCounted counts (cells ++ Dropped ∷ [])
counted_dropped counts cells t = record {
  packets = subst (IsCounted counts.packets) (ap (map pid_of) (sym (live-dropped cells))) t.packets;
  scrambled = subst (IsCounted counts.scrambled) (ap (λ (ps : List (List ℕ)). map pid_of (filter is_scrambled ps)) (sym (live-dropped cells))) t.scrambled;
  faults = subst (IsCounted counts.faults) (sym (faults-dropped cells)) t.faults;
  errored = subst (IsCounted counts.errored) (ap (λ (ps : List (List ℕ)). map pid_of (filter error_indicator_of ps)) (sym (live-dropped cells))) t.errored;
}

-- a packet is counted by its kind
pub counted_live : (counts counts_new : PacketCounts) (cells : List Cell) (packet : List ℕ) (labels : ℕ) → AreCounted counts cells
    → (pid : ℕ) (scrambled fault errored : Bool) → pid ≡ pid_of packet → scrambled ≡ is_scrambled packet → fault ≡ is_fault_at cells packet → errored ≡ error_indicator_of packet
    → ((pids : List ℕ) → IsCounted counts.packets pids → IsCounted counts_new.packets (pids ++ pid ∷ []))
    → ((pids : List ℕ) → IsCounted counts.scrambled pids → IsCounted counts_new.scrambled (pids ++ (if scrambled then pid ∷ [] else [])))
    → ((pids : List ℕ) → IsCounted counts.faults pids → IsCounted counts_new.faults (pids ++ (if fault then pid ∷ [] else [])))
    → ((pids : List ℕ) → IsCounted counts.errored pids → IsCounted counts_new.errored (pids ++ (if errored then pid ∷ [] else [])))
    → AreCounted counts_new (cells ++ Live packet labels ∷ [])
counted_live counts counts_new cells packet labels t pid scrambled fault errored pid_is scrambled_is fault_is errored_is packets_more scrambled_more faults_more errored_more = record {
  packets = subst (IsCounted counts_new.packets)
      (ap (λ (q : ℕ). map pid_of (live_packets cells) ++ q ∷ []) pid_is
      ∙ (sym (map-append pid_of (live_packets cells) (packet ∷ [])) ∙ ap (map pid_of) (sym (live-live cells packet labels))))
      (packets_more (map pid_of (live_packets cells)) t.packets);
  scrambled = subst (IsCounted counts_new.scrambled)
      (of_kind is_scrambled scrambled scrambled_is ∙ sym (kind-more is_scrambled cells packet labels))
      (scrambled_more _ t.scrambled);
  faults = subst (IsCounted counts_new.faults)
      (ap (λ (b : Bool). fault_pids cells ++ (if b then pid ∷ [] else [])) fault_is
      ∙ (ap (λ (q : ℕ). fault_pids cells ++ (if is_fault_at cells packet then q ∷ [] else [])) pid_is
      ∙ sym (faults-more cells packet labels)))
      (faults_more _ t.faults);
  errored = subst (IsCounted counts_new.errored)
      (of_kind error_indicator_of errored errored_is ∙ sym (kind-more error_indicator_of cells packet labels))
      (errored_more _ t.errored);
}
  where
    of_kind : (kind : List ℕ → Bool) (b : Bool) → b ≡ kind packet
        → map pid_of (filter kind (live_packets cells)) ++ (if b then pid ∷ [] else []) ≡ map pid_of (filter kind (live_packets cells)) ++ (if kind packet then pid_of packet ∷ [] else [])
    of_kind kind b is =
        ap (λ (x : Bool). map pid_of (filter kind (live_packets cells)) ++ (if x then pid ∷ [] else [])) is
        ∙ ap (λ (q : ℕ). map pid_of (filter kind (live_packets cells)) ++ (if kind packet then q ∷ [] else [])) pid_is
