-- What the demultiplexer reads of what a flow gave.
use Rattle.std.proofs.Common.{◌≡◌, ℕ, ◌+◌, ◌%◌, ◌<◌, ◌==◌, Bool, true, false, ◌&&◌, not, List, [], ◌∷◌, ◌++◌, Option, Some, None, is_some, refl, ◌∙◌, ap, arith, append_assoc, append-nil, subst}
use Rattle.std.specs.List.{filter_map, cons_option, AllByRecursion}
use Rattle.std.proofs.lemmas.Bool.Decides.{nat_tests}
use Rattle.ts_bit_rows.specs.BitRow.{bit_of, field}
use Rattle.ts_packet.specs.Header.{pid_of, scrambling_of, error_indicator_of}
use Rattle.ts_packet.specs.Payload.{payload_start_of}
use Rattle.ts_packet.specs.Packet.{null_packet}
use Rattle.ts_section.specs.ValidSection.{IsSection}
use Rattle.ts_demux.specs.CountedPackets.{counted, counted_packets}
use Rattle.ts_demux.specs.SectionsOfParts.{sections_of_parts}
use Rattle.ts_demux.specs.SectionsOfPid.{sections_of_pid}
use Rattle.ts_demux.proofs.Choice.{if_true, if_false, and_false_first}
use Rattle.ts_demux.proofs.Feeding.{not_counted}
use Rattle.ts_demux.proofs.Remembering.{sections_left}
use Rattle.ts_packetize.specs.Packing.{Load, goes_on_alone, next_step}
use Rattle.ts_packetize.specs.Packets.{packet_with}
use Rattle.ts_packetize.proofs.HeaderFields.{part_with, parts_from, counted-packet}
use Rattle.ts_packetize.proofs.Laying.{done_says}
use Rattle.section_flow.specs.Flow.{Edit, Waiting, Given, nothing_waits, with_sections, next_given, completed_by, ready_with, given_after, waiting_from, waiting_after, given_from, all_given, edited_from, edited_of, GivesSections, IsClear, is_empty}
use Rattle.section_flow.proofs.Placing.{given-other, given-next}
use Rattle.section_flow.proofs.LoadsRead.{Packed, packed-none, packed-step, without_repeats-parts, valid_left}

-- the parts of what is given for packets, and which sections they carry
record Reads (pid : ℕ) (edit : Edit) (met : List (List ℕ)) (waiting : Waiting) (packets : List (List ℕ)) (c : ℕ) : Type 0 where
  pub loads : List Load
  pub parts : counted_packets pid (given_from pid edit met waiting packets) ≡ parts_from (waiting.number % 16) loads
  pub packed : Packed c loads waiting.rest (waiting.sections ++ edited_from pid edit met packets)

other_counts : (pid : ℕ) (packet : List ℕ) → (pid_of packet == pid) ≡ false → counted pid packet ≡ None
other_counts pid packet e = not_counted pid packet (and_false_first (pid_of packet == pid) ((scrambling_of packet == 0) && (not (error_indicator_of packet) && is_some (payload_start_of packet))) e)

null_pid : pid_of null_packet ≡ 8191
unfolding field bit_of
null_pid = refl

not_null : (pid : ℕ) → pid < 8191 → (8191 == pid) ≡ false
not_null pid h = grind (arith, nat_tests, h)

null_counts : (pid : ℕ) → pid < 8191 → counted pid null_packet ≡ None
null_counts pid h = other_counts pid null_packet (ap (λ n. n == pid) null_pid ∙ not_null pid h)

valid_some : (o : Option (List ℕ)) (others : List (List ℕ)) → ((new : List ℕ) → o ≡ Some new → IsSection new) → AllByRecursion (λ s. IsSection s) others → AllByRecursion (λ s. IsSection s) (cons_option o others)
valid_some None others h all = all
valid_some (Some s) others h all = (h s refl, all)

valid_edited : (edit : List ℕ → Option (List ℕ)) (ss : List (List ℕ)) → ((s new : List ℕ) → edit s ≡ Some new → IsSection new) → AllByRecursion (λ s. IsSection s) (filter_map edit ss)
valid_edited edit [] h = tt
valid_edited edit (s ∷ ss) h = valid_some (edit s) (filter_map edit ss) (h s) (valid_edited edit ss h)

valid_both : (xs ys : List (List ℕ)) → AllByRecursion (λ s. IsSection s) xs → AllByRecursion (λ s. IsSection s) ys → AllByRecursion (λ s. IsSection s) (xs ++ ys)
valid_both [] ys all more = more
valid_both (x ∷ xs) ys all more = (all.0, valid_both xs ys all.1 more)

module _ (pid : ℕ) (edit : Edit) (low : pid < 8191) where
  -- the first packet gives nothing that counts
  reads-stays :
      (met : List (List ℕ)) (waiting : Waiting) (packet put : List ℕ) (packets : List (List ℕ)) (c : ℕ) →
      given_after pid edit met waiting packet ≡ record { packet = put; waiting = with_sections waiting (ready_with pid edit met packet) } →
      counted pid put ≡ None → Reads pid edit (met ++ packet ∷ []) (with_sections waiting (ready_with pid edit met packet)) packets c →
      Reads pid edit met waiting (packet ∷ packets) c
  unfolding given_from edited_from
  reads-stays met waiting packet put packets c e none r =
      let ready = ready_with pid edit met packet in
      let behind = met ++ packet ∷ [] in
      record {
        loads = r.loads;
        parts =
            ap (λ (g : Given). counted_packets pid (g.packet ∷ given_from pid edit behind g.waiting packets)) e
            ∙ ap (λ o. cons_option o (counted_packets pid (given_from pid edit behind (with_sections waiting ready) packets))) none
            ∙ r.parts;
        packed = subst (Packed c r.loads waiting.rest) (append_assoc waiting.sections ready (edited_from pid edit behind packets)) r.packed;
      }

  next_of : Waiting → Given
  next_of w = let step = next_step w.rest w.sections in record {
    packet = packet_with pid (w.number % 16) step.load;
    waiting = record { rest = step.rest; sections = step.sections; number = w.number + 1 };
  }

  -- it gives a load
  reads-gives :
      (met : List (List ℕ)) (waiting : Waiting) (packet : List ℕ) (packets : List (List ℕ)) (c : ℕ) →
      given_after pid edit met waiting packet ≡ next_of (with_sections waiting (ready_with pid edit met packet)) →
      AllByRecursion (λ s. IsSection s) (waiting.sections ++ ready_with pid edit met packet) →
      Reads pid edit (met ++ packet ∷ []) (next_of (with_sections waiting (ready_with pid edit met packet))).waiting packets ((c + 1) % 16) →
      Reads pid edit met waiting (packet ∷ packets) c
  unfolding given_from edited_from next_of
  reads-gives met waiting packet packets c e all r =
      let ready = ready_with pid edit met packet in
      let behind = met ++ packet ∷ [] in
      let joined = waiting.sections ++ ready in
      let step = next_step waiting.rest joined in
      record {
        loads = step.load ∷ r.loads;
        parts =
            ap (λ (g : Given). counted_packets pid (g.packet ∷ given_from pid edit behind g.waiting packets)) e
            ∙ ap (λ o. cons_option o (counted_packets pid (given_from pid edit behind (next_of (with_sections waiting ready)).waiting packets))) (counted-packet pid (waiting.number % 16) step.load (omega (arith, low)) (omega arith))
            ∙ ap (λ t. part_with (waiting.number % 16) step.load ∷ t) (r.parts ∙ ap (λ n. parts_from n r.loads) (let n : (waiting.number + 1) % 16 ≡ (waiting.number % 16 + 1) % 16 = omega arith in n));
        packed = subst (Packed c (step.load ∷ r.loads) waiting.rest) (append_assoc waiting.sections ready (edited_from pid edit behind packets))
            (packed-step c r.loads waiting.rest joined (edited_from pid edit behind packets) (goes_on_alone waiting.rest joined) refl all r.packed);
      }

  module _ (gives : GivesSections edit) where
    valid_ready : (met : List (List ℕ)) (packet : List ℕ) → AllByRecursion (λ s. IsSection s) (ready_with pid edit met packet)
    valid_ready met packet = valid_edited (edit (met ++ packet ∷ [])) (completed_by pid met packet) (gives (met ++ packet ∷ []))

    -- what is read of the packets after the first one, whatever waits then
    abbrev ReadsOn : List (List ℕ) → List (List ℕ) → Type 0
    ReadsOn met packets = (waiting : Waiting) (c : ℕ) → (c + 1) % 16 ≡ waiting.number % 16 → AllByRecursion (λ s. IsSection s) waiting.sections →
        is_empty (waiting_from pid edit met waiting packets) ≡ true → Reads pid edit met waiting packets c

    reads-clear : (packet : List ℕ) (packets met : List (List ℕ)) (waiting : Waiting) (c : ℕ) → (c + 1) % 16 ≡ waiting.number % 16 → AllByRecursion (λ s. IsSection s) waiting.sections →
        given_after pid edit met waiting packet ≡ next_given pid (with_sections waiting (ready_with pid edit met packet)) →
        (empty : Bool) → is_empty (with_sections waiting (ready_with pid edit met packet)) ≡ empty →
        is_empty (waiting_from pid edit (met ++ packet ∷ []) (given_after pid edit met waiting packet).waiting packets) ≡ true →
        ReadsOn (met ++ packet ∷ []) packets → Reads pid edit met waiting (packet ∷ packets) c
    unfolding next_of
    reads-clear packet packets met waiting c n valid e true empty end more =
        let ready = ready_with pid edit met packet in
        let joined = with_sections waiting ready in
        let null : Given = record { packet = null_packet; waiting = joined } in
        let is = e ∙ if_true (is_empty joined) null (next_of joined) empty in
        reads-stays met waiting packet null_packet packets c is (null_counts pid low)
        (more joined c n (valid_both waiting.sections ready valid (valid_ready met packet))
        (subst (λ (g : Given). is_empty (waiting_from pid edit (met ++ packet ∷ []) g.waiting packets) ≡ true) is end))
    reads-clear packet packets met waiting c n valid e false empty end more =
        let ready = ready_with pid edit met packet in
        let joined = with_sections waiting ready in
        let all = valid_both waiting.sections ready valid (valid_ready met packet) in
        let null : Given = record { packet = null_packet; waiting = joined } in
        let is = e ∙ if_false (is_empty joined) null (next_of joined) empty in
        reads-gives met waiting packet packets c is all
        (more (next_of joined).waiting ((c + 1) % 16) (omega (arith, n)) (valid_left waiting.rest (waiting.sections ++ ready) all)
        (subst (λ (g : Given). is_empty (waiting_from pid edit (met ++ packet ∷ []) g.waiting packets) ≡ true) is end))

    reads-first : (packet : List ℕ) (packets met : List (List ℕ)) (waiting : Waiting) (c : ℕ) → (c + 1) % 16 ≡ waiting.number % 16 → AllByRecursion (λ s. IsSection s) waiting.sections →
        IsClear pid packet → (here : Bool) → (pid_of packet == pid) ≡ here →
        is_empty (waiting_from pid edit (met ++ packet ∷ []) (given_after pid edit met waiting packet).waiting packets) ≡ true →
        ReadsOn (met ++ packet ∷ []) packets → Reads pid edit met waiting (packet ∷ packets) c
    reads-first packet packets met waiting c n valid clear false e end more =
        let ready = ready_with pid edit met packet in
        let joined = with_sections waiting ready in
        let is = given-other pid joined packet e in
        reads-stays met waiting packet packet packets c is (other_counts pid packet e)
        (more joined c n (valid_both waiting.sections ready valid (valid_ready met packet))
        (subst (λ (g : Given). is_empty (waiting_from pid edit (met ++ packet ∷ []) g.waiting packets) ≡ true) is end))
    reads-first packet packets met waiting c n valid clear true e end more =
        let joined = with_sections waiting (ready_with pid edit met packet) in
        reads-clear packet packets met waiting c n valid (given-next pid joined packet e (clear e)) (is_empty joined) refl end more

    reads : (packets met : List (List ℕ)) (waiting : Waiting) (c : ℕ) → (c + 1) % 16 ≡ waiting.number % 16 → AllByRecursion (λ s. IsSection s) waiting.sections →
        AllByRecursion (λ p. IsClear pid p) packets → is_empty (waiting_from pid edit met waiting packets) ≡ true → Reads pid edit met waiting packets c
    unfolding given_from edited_from waiting_from
    reads [] met waiting c n valid clear end =
        let d = done_says waiting.rest waiting.sections end in
        record { loads = []; parts = refl; packed = packed-none c [] waiting.rest (waiting.sections ++ []) refl d.0 (append-nil waiting.sections ∙ d.1) }
    reads (packet ∷ packets) met waiting c n valid clear end =
        reads-first packet packets met waiting c n valid clear.0 (pid_of packet == pid) refl end
        (λ w d m v stop. reads packets (met ++ packet ∷ []) w d m v clear.1 stop)

    pub all_read : (met : List (List ℕ)) → AllByRecursion (λ p. IsClear pid p) met → is_empty (waiting_after pid edit met) ≡ true →
        sections_of_pid pid (all_given pid edit met) ≡ edited_of pid edit met
    unfolding sections_of_parts
    all_read met clear end =
        let r = reads met [] nothing_waits 15 (omega arith) tt clear end in
        ap sections_of_parts r.parts
        ∙ ap sections_left (without_repeats-parts None 0 r.loads refl (omega arith))
        ∙ r.packed.2
