-- Lemmas on what is kept of the last packet on each PID, cell by cell.
use Rattle.std.proofs.Common.{◌≡◌, ℕ, ◌<◌, List, [], ◌∷◌, ◌++◌, length, filter, get_or, set, ap, sym, ◌∙◌, inl, inr, refl, Bool, ◌==◌, if◌then◌else◌, append-nil, Option, None, arith, get_or-set_same, get_or-set_other, eq-eqb}
use Rattle.std.proofs.lemmas.Grind.{flat_map-append}
use Rattle.std.proofs.lemmas.List.Elements.{filter-append}
use Rattle.std.proofs.lemmas.Bool.{cases_eq, ne_eqb}
use Rattle.ts_packet.specs.declared.numbers.TheConstants.{NULL_PID, PID_COUNT}
use Rattle.ts_packet.specs.declared.cell.Cell.{Cell}
use Rattle.ts_packet.specs.Cells.{Live, Dropped, live_packets, packet_in}
use Rattle.ts_packet.specs.Header.{pid_of}
use Rattle.plugin_notes.specs.Counters.{packets_of}
use Rattle.monitor_counters.specs.CounterErrors.{last_met, met_after, met_with}
use Rattle.monitor_counters.specs.MetPackets.{Remembers}
use Rattle.monitor_counters.specs.declared.last_met.LastMet.{LastMet}
use Rattle.monitor_counters.specs.declared.last_mets.LastMets.{LastMets}

-- one more packet on the PID
met_after-append : (before : Option LastMet) (packets : List (List ℕ)) (packet : List ℕ)
    → met_after before (packets ++ packet ∷ []) ≡ met_with (met_after before packets) packet
met_after-append before [] packet = refl
met_after-append before (first ∷ packets) packet = met_after-append (met_with before first) packets packet

-- the packets on a PID with one cell more
packets_of-live : (pid : ℕ) (history : List Cell) (packet : List ℕ) (labels : ℕ)
    → packets_of pid (history ++ Live packet labels ∷ []) ≡ packets_of pid history ++ (if pid_of packet == pid then packet ∷ [] else [])
packets_of-live pid history packet labels =
    ap (filter (λ p. pid_of p == pid)) (flat_map-append packet_in history (Live packet labels ∷ []))
    ∙ filter-append (λ p. pid_of p == pid) (live_packets history) (packet ∷ [])

last_met-dropped : (pid : ℕ) (history : List Cell) → last_met pid (history ++ Dropped ∷ []) ≡ last_met pid history
last_met-dropped pid history =
    ap (λ (ps : List (List ℕ)). met_after None (filter (λ p. pid_of p == pid) ps)) (flat_map-append packet_in history (Dropped ∷ []) ∙ append-nil (live_packets history))

-- a packet on another PID
last_met-other : (pid : ℕ) (history : List Cell) (packet : List ℕ) (labels : ℕ) → (pid_of packet ≡ pid → ⊥)
    → last_met pid (history ++ Live packet labels ∷ []) ≡ last_met pid history
last_met-other pid history packet labels other =
    ap (met_after None)
    (packets_of-live pid history packet labels
    ∙ (ap (λ (b : Bool). packets_of pid history ++ (if b then packet ∷ [] else [])) (ne_eqb (pid_of packet) pid other)
    ∙ append-nil (packets_of pid history)))

-- one on the PID
last_met-same : (history : List Cell) (packet : List ℕ) (labels : ℕ)
    → last_met (pid_of packet) (history ++ Live packet labels ∷ []) ≡ met_with (last_met (pid_of packet) history) packet
last_met-same history packet labels =
    ap (met_after None)
    (packets_of-live (pid_of packet) history packet labels
    ∙ ap (λ (b : Bool). packets_of (pid_of packet) history ++ (if b then packet ∷ [] else [])) (eq-eqb (pid_of packet) (pid_of packet) refl))
    ∙ met_after-append None (packets_of (pid_of packet) history) packet

-- before any cell
pub remembers_none : (kept : LastMets) → ((pid : ℕ) → get_or kept.packets pid None ≡ None) → Remembers kept []
remembers_none kept none = record { each = λ pid below other. none pid }

-- what was set for the packet
pub set_with : (packets next : List (Option LastMet)) (packet : List ℕ) (pid : ℕ) (before value : Option LastMet)
    → next ≡ set packets pid value → value ≡ met_with before packet → before ≡ get_or packets pid None → pid ≡ pid_of packet
    → next ≡ set packets (pid_of packet) (met_with (get_or packets (pid_of packet) None) packet)
set_with packets next packet pid before value is value_is before_is pid_is =
    is
    ∙ (ap (λ (v : Option LastMet). set packets pid v) value_is
    ∙ (ap (λ (b : Option LastMet). set packets pid (met_with b packet)) before_is
    ∙ ap (λ (q : ℕ). set packets q (met_with (get_or packets q None) packet)) pid_is))

module _ (kept : LastMets) (history : List Cell) (r : Remembers kept history) where
  -- a dropped cell
  pub remembers_dropped : Remembers kept (history ++ Dropped ∷ [])
  remembers_dropped = record { each = λ pid below other. r.each pid below other ∙ sym (last_met-dropped pid history) }

  module _ (packet : List ℕ) (labels : ℕ) where
    -- a null packet
    pub remembers_null : pid_of packet ≡ NULL_PID → Remembers kept (history ++ Live packet labels ∷ [])
    remembers_null is = record {
      each = λ pid below other. r.each pid below other ∙ sym (last_met-other pid history packet labels (λ same. other (sym same ∙ is)));
    }

    module _ (below : pid_of packet < PID_COUNT) (not_null : pid_of packet ≡ NULL_PID → ⊥) (next : LastMets)
        (set_is : next.packets ≡ set kept.packets (pid_of packet) (met_with (get_or kept.packets (pid_of packet) None) packet))
        (whole : length kept.packets ≡ PID_COUNT) where
      -- at the packet's PID
      at_place : get_or next.packets (pid_of packet) None ≡ met_with (last_met (pid_of packet) history) packet
      at_place =
          ap (λ (ks : List (Option LastMet)). get_or ks (pid_of packet) None) set_is
          ∙ (get_or-set_same kept.packets (pid_of packet) (met_with (get_or kept.packets (pid_of packet) None) packet) None (omega (arith, whole, below))
          ∙ ap (λ (before : Option LastMet). met_with before packet) (r.each (pid_of packet) below not_null))

      -- at others
      at_other : (pid : ℕ) → (pid ≡ pid_of packet → ⊥) → get_or next.packets pid None ≡ get_or kept.packets pid None
      at_other pid other =
          ap (λ (ks : List (Option LastMet)). get_or ks pid None) set_is
          ∙ get_or-set_other kept.packets (pid_of packet) pid _ None other

      -- any other packet
      pub remembers_live : Remembers next (history ++ Live packet labels ∷ [])
      remembers_live = record {
        each = λ pid pid_below no_null. elim (cases_eq pid (pid_of packet)) as (λ _. get_or next.packets pid None ≡ last_met pid (history ++ Live packet labels ∷ [])) [
          | inl same ↦
              ap (λ (q : ℕ). get_or next.packets q None) same
              ∙ (at_place
              ∙ (sym (last_met-same history packet labels)
              ∙ ap (λ (q : ℕ). last_met q (history ++ Live packet labels ∷ [])) (sym same)))
          | inr other ↦
              at_other pid other
              ∙ (r.each pid pid_below no_null
              ∙ sym (last_met-other pid history packet labels (λ same. other (sym same))))
        ];
      }
