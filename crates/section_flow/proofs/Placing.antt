-- What leaves in the place of a packet, by cases.
use Rattle.std.proofs.Common.{◌≡◌, ℕ, ◌+◌, ◌%◌, ◌<◌, ◌==◌, Bool, true, false, List, refl, sym, ◌∙◌, ap, arith, subst}
use Rattle.std.specs.Prelude.{if◌then◌else◌}
use Rattle.ts_demux.proofs.Choice.{if_true, if_false}
use Rattle.ts_packet.specs.Header.{pid_of, scrambling_of, has_payload_of, with_counter}
use Rattle.ts_packet.specs.Packet.{null_packet}
use Rattle.ts_packetize.specs.Packing.{is_done, next_step}
use Rattle.ts_packetize.specs.Packets.{packet_with}
use Rattle.plug_inject.specs.Counted.{counter_behind}
use Rattle.section_flow.specs.Flow.{Waiting, Given, given_for, next_given, passed}
use Rattle.section_flow.specs.FlowState.{PackingState, Holds, Puts}

module _ (pid : ℕ) (waiting : Waiting) (packet : List ℕ) where
  here : Given
  here = if scrambling_of packet == 0 then next_given pid waiting else passed pid waiting packet

  pub given-other : (pid_of packet == pid) ≡ false → given_for pid waiting packet ≡ record { packet = packet; waiting = waiting }
  unfolding given_for
  given-other e = if_false (pid_of packet == pid) (if scrambling_of packet == 0 then next_given pid waiting else passed pid waiting packet) (record { packet = packet; waiting = waiting }) e

  pub given-passed : (pid_of packet == pid) ≡ true → (scrambling_of packet == 0) ≡ false → given_for pid waiting packet ≡ passed pid waiting packet
  unfolding given_for
  given-passed e f =
      if_true (pid_of packet == pid) (if scrambling_of packet == 0 then next_given pid waiting else passed pid waiting packet) (record { packet = packet; waiting = waiting }) e
      ∙ if_false (scrambling_of packet == 0) (next_given pid waiting) (passed pid waiting packet) f

  pub given-next : (pid_of packet == pid) ≡ true → (scrambling_of packet == 0) ≡ true → given_for pid waiting packet ≡ next_given pid waiting
  unfolding given_for
  given-next e f =
      if_true (pid_of packet == pid) (if scrambling_of packet == 0 then next_given pid waiting else passed pid waiting packet) (record { packet = packet; waiting = waiting }) e
      ∙ if_true (scrambling_of packet == 0) (next_given pid waiting) (passed pid waiting packet) f

-- a packet of another PID
pub puts-other : (old : PackingState) (packet put : List ℕ) → (pid_of packet == old.pid) ≡ false → put ≡ packet → Puts old old packet put
puts-other old packet put e is = record {
  same_pid = refl;
  placed = λ waiting h. is ∙ sym (ap (λ g. g.packet) (given-other old.pid waiting packet e));
  held = λ waiting h. subst (Holds old) (sym (ap (λ g. g.waiting) (given-other old.pid waiting packet e))) h;
}

-- where nothing waits
pub puts-null :
    (old : PackingState) (packet put : List ℕ) → (pid_of packet == old.pid) ≡ true → (scrambling_of packet == 0) ≡ true →
    is_done old.rest old.sections ≡ true → put ≡ null_packet → Puts old old packet put
puts-null old packet put e f done is = record {
  same_pid = refl;
  placed = λ waiting h. is ∙ sym (ap (λ g. g.packet) (all waiting h));
  held = λ waiting h. subst (Holds old) (sym (ap (λ g. g.waiting) (all waiting h))) h;
}
  where
    all : (waiting : Waiting) → Holds old waiting → given_for old.pid waiting packet ≡ record { packet = null_packet; waiting = waiting }
    all waiting h =
        given-next old.pid waiting packet e f
        ∙ if_true (is_done waiting.rest waiting.sections) (record { packet = null_packet; waiting = waiting }) (next_of waiting)
        (ap (λ r. is_done r waiting.sections) (sym h.rest) ∙ ap (is_done old.rest) (sym h.sections) ∙ done)
      where
        next_of : Waiting → Given
        next_of w = let step = next_step w.rest w.sections in record {
          packet = packet_with old.pid (w.number % 16) step.load;
          waiting = record { rest = step.rest; sections = step.sections; number = w.number + 1 };
        }

-- the counters of a packet that passes
same_counter : (counter number : ℕ) (packet : List ℕ) → counter < 16 → counter ≡ number % 16 → counter_behind counter packet ≡ counter_behind number packet
same_counter counter number packet h e = by_payload (has_payload_of packet) refl
  where
    by_payload : (b : Bool) → has_payload_of packet ≡ b → counter_behind counter packet ≡ counter_behind number packet
    by_payload true p =
        if_true (has_payload_of packet) (counter % 16) ((counter + 15) % 16) p
        ∙ (let same : counter % 16 ≡ number % 16 = omega (arith, e, h) in same)
        ∙ sym (if_true (has_payload_of packet) (number % 16) ((number + 15) % 16) p)
    by_payload false p =
        if_false (has_payload_of packet) (counter % 16) ((counter + 15) % 16) p
        ∙ (let same : (counter + 15) % 16 ≡ (number + 15) % 16 = omega (arith, e, h) in same)
        ∙ sym (if_false (has_payload_of packet) (number % 16) ((number + 15) % 16) p)

next_counter : (b : Bool) (counter number : ℕ) → counter ≡ number % 16 → counter < 16 →
    (if b then (counter + 1) % 16 else counter) ≡ (number + (if b then 1 else 0)) % 16
next_counter true counter number e h = omega (arith, e, h)
next_counter false counter number e h = omega (arith, e, h)

-- a scrambled packet
pub puts-passed :
    (old new : PackingState) (packet put : List ℕ) → (pid_of packet == old.pid) ≡ true → (scrambling_of packet == 0) ≡ false → old.counter < 16 →
    put ≡ with_counter packet (counter_behind old.counter packet) →
    new.pid ≡ old.pid → new.rest ≡ old.rest → new.sections ≡ old.sections → new.counter ≡ (if has_payload_of packet then (old.counter + 1) % 16 else old.counter) →
    Puts old new packet put
puts-passed old new packet put e f few is same_pid same_rest same_sections behind = record {
  same_pid = same_pid;
  placed = λ waiting h.
      is
      ∙ ap (with_counter packet) (same_counter old.counter waiting.number packet few h.counter)
      ∙ sym (if_true (pid_of packet == old.pid) (with_counter packet (counter_behind waiting.number packet)) packet e)
      ∙ sym (ap (λ g. g.packet) (given-passed old.pid waiting packet e f));
  held = λ waiting h. subst (Holds new) (sym (ap (λ g. g.waiting) (given-passed old.pid waiting packet e f))) (record {
    rest = same_rest ∙ h.rest;
    sections = same_sections ∙ h.sections;
    counter = behind ∙ next_counter (has_payload_of packet) old.counter waiting.number h.counter few;
  });
}

-- where something waits
pub puts-next :
    (old new : PackingState) (packet put : List ℕ) → (pid_of packet == old.pid) ≡ true → (scrambling_of packet == 0) ≡ true → old.counter < 16 →
    is_done old.rest old.sections ≡ false → put ≡ packet_with old.pid old.counter (next_step old.rest old.sections).load →
    new.pid ≡ old.pid → new.rest ≡ (next_step old.rest old.sections).rest → new.sections ≡ (next_step old.rest old.sections).sections →
    new.counter ≡ (old.counter + 1) % 16 →
    Puts old new packet put
puts-next old new packet put e f few more is same_pid rest sections behind = record {
  same_pid = same_pid;
  placed = λ waiting h.
      is
      ∙ ap (λ n. packet_with old.pid n (next_step old.rest old.sections).load) h.counter
      ∙ ap (λ r. packet_with old.pid (waiting.number % 16) (next_step r old.sections).load) h.rest
      ∙ ap (λ s. packet_with old.pid (waiting.number % 16) (next_step waiting.rest s).load) h.sections
      ∙ sym (ap (λ g. g.packet) (all waiting h));
  held = λ waiting h. subst (Holds new) (sym (ap (λ g. g.waiting) (all waiting h))) (record {
    rest = rest ∙ ap (λ r. (next_step r old.sections).rest) h.rest ∙ ap (λ s. (next_step waiting.rest s).rest) h.sections;
    sections = sections ∙ ap (λ r. (next_step r old.sections).sections) h.rest ∙ ap (λ s. (next_step waiting.rest s).sections) h.sections;
    counter = behind ∙ next_counter true old.counter waiting.number h.counter few;
  });
}
  where
    next_of : Waiting → Given
    next_of w = let step = next_step w.rest w.sections in record {
      packet = packet_with old.pid (w.number % 16) step.load;
      waiting = record { rest = step.rest; sections = step.sections; number = w.number + 1 };
    }

    all : (waiting : Waiting) → Holds old waiting → given_for old.pid waiting packet ≡ next_of waiting
    all waiting h =
        given-next old.pid waiting packet e f
        ∙ if_false (is_done waiting.rest waiting.sections) (record { packet = null_packet; waiting = waiting }) (next_of waiting)
        (ap (λ r. is_done r waiting.sections) (sym h.rest) ∙ ap (is_done old.rest) (sym h.sections) ∙ more)
