-- Lemmas on what is kept of the packets on a PID, packet by packet.
use Rattle.std.proofs.Common.{◌≡◌, ℕ, ◌+◌, ◌%◌, ◌<◌, List, [], ◌∷◌, ◌++◌, length, filter, get_or, set, ap, sym, subst, ◌∙◌, inl, inr, refl, Bool, true, false, not, ◌&&◌, if◌then◌else◌, ◌==◌, append-nil, Option, None, Some, add_assoc, arith, get_or-set_same, get_or-set_other, eq-eqb}
use Rattle.std.proofs.lemmas.Grind.{flat_map-append}
use Rattle.std.proofs.lemmas.List.Elements.{filter-append}
use Rattle.std.proofs.lemmas.Bool.{cases_eq, ne_eqb, false≢true}
use Rattle.ts_packet.specs.declared.numbers.TheConstants.{PID_COUNT}
use Rattle.plugin_notes.proofs.Noting.{IsNoteAt}
use Rattle.ts_packet.specs.declared.cell.Cell.{Cell}
use Rattle.ts_packet.specs.Cells.{Live, Dropped, live_packets, packet_in}
use Rattle.ts_packet.specs.Header.{pid_of, counter_of, has_payload_of}
use Rattle.plugin_notes.specs.declared.continuity_conf.ContinuityConf.{ContinuityConf}
use Rattle.plugin_notes.specs.declared.continuity_error.ContinuityError.{ContinuityError}
use Rattle.plugin_notes.specs.declared.last_packet.LastPacket.{LastPacket}
use Rattle.plugin_notes.specs.declared.last_packets.LastPackets.{LastPackets}
use Rattle.plugin_notes.specs.Counters.{is_watched, is_duplicate, is_fault, wanted_behind, packets_of, last_after, last_in, last_of, step_after, steps_after, right_counter}
use Rattle.plugin_notes.specs.ContinuityErrors.{error_after, error_on, place_of_error}
use Rattle.plugin_notes.specs.LastSeen.{HasCounters, Remembers, fault_after, right_after, seen_in, seen_with}

-- the last packet
last_after-append : (first : List ℕ) (rest : List (List ℕ)) (packet : List ℕ) → last_after first (rest ++ packet ∷ []) ≡ packet
last_after-append first [] packet = refl
last_after-append first (next ∷ rest) packet = last_after-append next rest packet

-- the steps with one more packet
steps_after-append : (first : List ℕ) (rest : List (List ℕ)) (packet : List ℕ)
    → steps_after first (rest ++ packet ∷ []) ≡ steps_after first rest + step_after (last_after first rest) packet
steps_after-append first [] packet = omega arith
steps_after-append first (next ∷ rest) packet =
    ap (λ (n : ℕ). step_after first next + n) (steps_after-append next rest packet)
    ∙ sym (add_assoc (step_after first next) (steps_after next rest) (step_after (last_after next rest) packet))

-- one more step of a counter
step_more : (n : ℕ) (steps : Bool) → (n + (if steps then 1 else 0)) % 16 ≡ (if steps then (n % 16 + 1) % 16 else n % 16)
step_more n true = omega arith
step_more n false = omega arith

-- the correct counter with one more packet follows from what is kept
pub right_counter-append : (packets : List (List ℕ)) (packet : List ℕ) → counter_of packet < 16
    → right_counter (packets ++ packet ∷ []) ≡ right_after (seen_in packets) packet
right_counter-append [] packet small = omega arith
right_counter-append (first ∷ rest) packet small =
    ap (λ (n : ℕ). (counter_of first + n) % 16) (steps_after-append first rest packet)
    ∙ (ap (λ (n : ℕ). n % 16) (sym (add_assoc (counter_of first) (steps_after first rest) (step_after (last_after first rest) packet)))
    ∙ step_more (counter_of first + steps_after first rest)
    (has_payload_of packet && not (is_duplicate (last_after first rest) packet)))

-- what is kept with one more packet
pub seen_in-append : (packets : List (List ℕ)) (packet : List ℕ) → counter_of packet < 16
    → seen_in (packets ++ packet ∷ []) ≡ Some (seen_with (seen_in packets) packet)
seen_in-append [] packet small =
    ap (λ (n : ℕ). let s : Option LastPacket = Some (record { counter = counter_of packet; has_payload = has_payload_of packet; right = n }) in s)
    (right_counter-append [] packet small)
seen_in-append (first ∷ rest) packet small =
    ap (λ (last : List ℕ). let s : Option LastPacket = Some (record { counter = counter_of last; has_payload = has_payload_of last; right = right_counter (first ∷ (rest ++ packet ∷ [])) }) in s)
    (last_after-append first rest packet)
    ∙ ap (λ (n : ℕ). let s : Option LastPacket = Some (record { counter = counter_of packet; has_payload = has_payload_of packet; right = n }) in s)
    (right_counter-append (first ∷ rest) packet small)

-- an error follows from what is kept
pub fault_after-seen : (at : ℕ) (packets : List (List ℕ)) (packet : List ℕ) → fault_after at (seen_in packets) packet ≡ error_after at (last_in packets) packet
fault_after-seen at [] packet = refl
fault_after-seen at (first ∷ rest) packet = refl

-- the packets on a PID with one more cell
packets_of-live : (pid : ℕ) (history : List Cell) (packet : List ℕ) (labels : ℕ)
    → packets_of pid (history ++ Live packet labels ∷ []) ≡ packets_of pid history ++ (if pid_of packet == pid then packet ∷ [] else [])
packets_of-live pid history packet labels =
    ap (filter (λ p. pid_of p == pid)) (flat_map-append packet_in history (Live packet labels ∷ []))
    ∙ filter-append (λ p. pid_of p == pid) (live_packets history) (packet ∷ [])

packets_of-dropped : (pid : ℕ) (history : List Cell) → packets_of pid (history ++ Dropped ∷ []) ≡ packets_of pid history
packets_of-dropped pid history =
    ap (filter (λ p. pid_of p == pid)) (flat_map-append packet_in history (Dropped ∷ []) ∙ append-nil (live_packets history))

-- at most one error
one_fault_after : (at : ℕ) (before : Option (List ℕ)) (packet : List ℕ) → IsNoteAt place_of_error at (error_after at before packet)
one_fault_after at None packet = record { one = inl refl }
one_fault_after at (Some before) packet =
    let fault : ContinuityError = record { at = at; pid = pid_of packet; counter = counter_of packet; wanted = wanted_behind before packet } in
    elim (is_fault before packet) as (λ b. IsNoteAt place_of_error at (if b then fault ∷ [] else [])) [
      | true ↦ record { one = inr (fault, refl, refl) }
      | false ↦ record { one = inl refl }
    ]

pub one_fault : (conf : ContinuityConf) (history : List Cell) (packet : List ℕ) → IsNoteAt place_of_error (length history) (error_on conf history packet)
one_fault conf history packet =
    elim (is_watched conf (pid_of packet)) as (λ b. IsNoteAt place_of_error (length history) (if b then error_after (length history) (last_of (pid_of packet) history) packet else [])) [
      | true ↦ one_fault_after (length history) (last_of (pid_of packet) history) packet
      | false ↦ record { one = inl refl }
    ]

module _ (conf : ContinuityConf) (last : LastPackets) (history : List Cell) (r : Remembers conf last history) where
  -- a dropped cell changes nothing of what is kept
  pub remembers_dropped : Remembers conf last (history ++ Dropped ∷ [])
  remembers_dropped = record {
    table = r.table;
    each = λ pid below watched. r.each pid below watched ∙ ap seen_in (sym (packets_of-dropped pid history));
  }

  -- nor does a packet on a PID that is not checked
  pub remembers_other : (packet : List ℕ) (labels : ℕ) → is_watched conf (pid_of packet) ≡ false → Remembers conf last (history ++ Live packet labels ∷ [])
  remembers_other packet labels unwatched = record {
    table = r.table;
    each = λ pid below watched.
        let other : pid_of packet ≡ pid → ⊥ = λ same. false≢true (sym unwatched ∙ (ap (is_watched conf) same ∙ watched)) in
        r.each pid below watched ∙ ap seen_in (sym (
        packets_of-live pid history packet labels
        ∙ (ap (λ (b : Bool). packets_of pid history ++ (if b then packet ∷ [] else [])) (ne_eqb (pid_of packet) pid other)
        ∙ append-nil (packets_of pid history))));
  }

  module _ (packet : List ℕ) (before : Option LastPacket) (below : pid_of packet < PID_COUNT) (watched : is_watched conf (pid_of packet) ≡ true)
      (is : before ≡ get_or last.seen (pid_of packet) None) where
    -- what was kept is that of the packets on the PID
    before_is : before ≡ seen_in (packets_of (pid_of packet) history)
    before_is = is ∙ r.each (pid_of packet) below watched

    -- the error of the packet
    pub fault_is : (at : ℕ) → length history ≡ at → fault_after at before packet ≡ error_on conf history packet
    fault_is at count =
        ap (λ (s : Option LastPacket). fault_after at s packet) before_is
        ∙ (ap (λ (n : ℕ). fault_after n (seen_in (packets_of (pid_of packet) history)) packet) (sym count)
        ∙ (fault_after-seen (length history) (packets_of (pid_of packet) history) packet
        ∙ sym (ap (λ (b : Bool). if b then error_after (length history) (last_of (pid_of packet) history) packet else []) watched)))

    -- the correct counter of the packet
    pub right_is : counter_of packet < 16 → right_after before packet ≡ right_counter (packets_of (pid_of packet) history ++ packet ∷ [])
    right_is few =
        ap (λ (s : Option LastPacket). right_after s packet) before_is ∙ sym (right_counter-append (packets_of (pid_of packet) history) packet few)

    -- the packets on the PID with this one
    packets_with : (labels : ℕ) → packets_of (pid_of packet) (history ++ Live packet labels ∷ []) ≡ packets_of (pid_of packet) history ++ packet ∷ []
    packets_with labels =
        packets_of-live (pid_of packet) history packet labels
        ∙ ap (λ (b : Bool). packets_of (pid_of packet) history ++ (if b then packet ∷ [] else [])) (eq-eqb (pid_of packet) (pid_of packet) refl)

    module _ (labels : ℕ) (last_new : LastPackets) (few : counter_of packet < 16) (right_few : right_after before packet < 16)
        (set_is : last_new.seen ≡ set last.seen (pid_of packet) (Some (seen_with before packet))) (whole : length last.seen ≡ PID_COUNT) where
      -- at the packet's PID
      at_place : get_or last_new.seen (pid_of packet) None ≡ Some (seen_with before packet)
      at_place =
          ap (λ (ss : List (Option LastPacket)). get_or ss (pid_of packet) None) set_is
          ∙ get_or-set_same last.seen (pid_of packet) (Some (seen_with before packet)) None (omega (arith, whole))

      -- at others
      at_other : (pid : ℕ) → (pid ≡ pid_of packet → ⊥) → get_or last_new.seen pid None ≡ get_or last.seen pid None
      at_other pid other =
          ap (λ (ss : List (Option LastPacket)). get_or ss pid None) set_is
          ∙ get_or-set_other last.seen (pid_of packet) pid (Some (seen_with before packet)) None other

      -- a checked packet is kept
      pub remembers_live : Remembers conf last_new (history ++ Live packet labels ∷ [])
      remembers_live = record {
        table = record {
          small = λ pid. elim (cases_eq pid (pid_of packet)) [
            | inl same ↦ subst HasCounters (sym (ap (λ (q : ℕ). get_or last_new.seen q None) same ∙ at_place)) (few, right_few)
            | inr other ↦ subst HasCounters (sym (at_other pid other)) (r.table.small pid)
          ];
        };
        each = λ pid pid_below pid_watched. elim (cases_eq pid (pid_of packet)) [
          | inl same ↦ subst (λ (q : ℕ). get_or last_new.seen q None ≡ seen_in (packets_of q (history ++ Live packet labels ∷ []))) (sym same)
              (at_place
              ∙ (ap (λ (s : Option LastPacket). let t : Option LastPacket = Some (seen_with s packet) in t) before_is
              ∙ (sym (seen_in-append (packets_of (pid_of packet) history) packet few)
              ∙ ap seen_in (sym (packets_with labels)))))
          | inr other ↦
              at_other pid other
              ∙ (r.each pid pid_below pid_watched
              ∙ ap seen_in (sym (
              packets_of-live pid history packet labels
              ∙ (ap (λ (b : Bool). packets_of pid history ++ (if b then packet ∷ [] else [])) (ne_eqb (pid_of packet) pid (λ same. other (sym same)))
              ∙ append-nil (packets_of pid history)))))
        ];
      }
