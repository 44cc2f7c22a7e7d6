-- A flow whose edit is the same whatever was met goes by the packets of its PID alone.
use Rattle.std.proofs.Common.{◌≡◌, ℕ, ◌==◌, ◌&&◌, Bool, true, false, List, [], ◌∷◌, ◌++◌, drop, length, Option, None, Some, refl, sym, ◌∙◌, ap, append-nil}
use Rattle.std.specs.Prelude.{if◌then◌else◌}
use Rattle.std.specs.List.{cons_option, filter_map}
use Rattle.std.proofs.lemmas.List.Elements.{filter-append}
use Rattle.ts_packet.specs.Header.{pid_of}
use Rattle.ts_demux.specs.CountedPackets.{counted, counted_packets, part_of_packet}
use Rattle.ts_demux.specs.SectionsOfParts.{sections_of_parts}
use Rattle.ts_demux.specs.SectionsOfPid.{sections_of_pid}
use Rattle.ts_demux.specs.TablesOn.{packets_on}
use Rattle.section_flow.specs.Flow.{Edit, Waiting, completed_by, given_after, given_for, nothing_waits, replaced, waiting_after, waiting_from, with_sections}
use Rattle.section_flow.proofs.FlowLemmas.{replaced-is}
use Rattle.section_flow.proofs.OtherPids.{drop-all, none-join}
use Rattle.section_flow.proofs.Placing.{given-other}

not_both : (a b : Bool) → a ≡ false → (a && b) ≡ false
not_both true b e = cc
not_both false b e = refl

no_part : (pid : ℕ) (p : List ℕ) → (pid_of p == pid) ≡ false → counted pid p ≡ None
unfolding counted
no_part pid p e = ap (λ b. if b then Some (part_of_packet p) else None) (not_both (pid_of p == pid) _ e)

first-counted :
    (pid : ℕ) (x : List ℕ) (xs : List (List ℕ)) → counted_packets pid (packets_on pid xs) ≡ counted_packets pid xs → (b : Bool) → (pid_of x == pid) ≡ b →
    counted_packets pid (if b then x ∷ packets_on pid xs else packets_on pid xs) ≡ cons_option (counted pid x) (counted_packets pid xs)
first-counted pid x xs same true e = ap (λ ps. cons_option (counted pid x) ps) same
first-counted pid x xs same false e = same ∙ sym (ap (λ o. cons_option o (counted_packets pid xs)) (no_part pid x e))

counted-on : (pid : ℕ) (packets : List (List ℕ)) → counted_packets pid (packets_on pid packets) ≡ counted_packets pid packets
counted-on pid [] = refl
counted-on pid (x ∷ xs) = first-counted pid x xs (counted-on pid xs) (pid_of x == pid) refl

sections-on : (pid : ℕ) (packets : List (List ℕ)) → sections_of_pid pid (packets_on pid packets) ≡ sections_of_pid pid packets
sections-on pid packets = ap sections_of_parts (counted-on pid packets)

on-more : (pid : ℕ) (met : List (List ℕ)) (p : List ℕ) (b : Bool) → (pid_of p == pid) ≡ b →
    packets_on pid (met ++ p ∷ []) ≡ packets_on pid met ++ (if b then p ∷ [] else [])
on-more pid met p b e =
    filter-append (λ packet. pid_of packet == pid) met (p ∷ [])
    ∙ ap (λ t. packets_on pid met ++ (if t then p ∷ [] else [])) e

-- a packet completes the sections that it completes among those of the PID
pub completed-on : (pid : ℕ) (met : List (List ℕ)) (p : List ℕ) → (pid_of p == pid) ≡ true → completed_by pid met p ≡ completed_by pid (packets_on pid met) p
completed-on pid met p e =
    ap (λ ss. drop (length ss) (sections_of_pid pid (met ++ p ∷ []))) (sym (sections-on pid met))
    ∙ ap (drop (length (sections_of_pid pid (packets_on pid met))))
    (sym (sections-on pid (met ++ p ∷ [])) ∙ ap (sections_of_pid pid) (on-more pid met p true e))

none-completed : (pid : ℕ) (met : List (List ℕ)) (p : List ℕ) → (pid_of p == pid) ≡ false → completed_by pid met p ≡ []
none-completed pid met p e =
    ap (drop (length (sections_of_pid pid met)))
    (sym (sections-on pid (met ++ p ∷ [])) ∙ ap (sections_of_pid pid) (on-more pid met p false e ∙ append-nil (packets_on pid met)) ∙ sections-on pid met)
    ∙ drop-all (sections_of_pid pid met)

module _ (pid : ℕ) (now : List ℕ → Option (List ℕ)) where
  abbrev same_edit : Edit
  same_edit = λ _. now

  given-on : (met : List (List ℕ)) (waiting : Waiting) (p : List ℕ) → (pid_of p == pid) ≡ true →
      given_after pid same_edit met waiting p ≡ given_after pid same_edit (packets_on pid met) waiting p
  given-on met waiting p e = ap (λ ss. given_for pid (with_sections waiting (filter_map now ss)) p) (completed-on pid met p e)

  given-off : (met : List (List ℕ)) (waiting : Waiting) (p : List ℕ) → (pid_of p == pid) ≡ false → (given_after pid same_edit met waiting p).waiting ≡ waiting
  given-off met waiting p e =
      ap (λ g. g.waiting) (given-other pid (with_sections waiting (filter_map now (completed_by pid met p))) p e)
      ∙ ap (λ ss. with_sections waiting (filter_map now ss)) (none-completed pid met p e)
      ∙ none-join waiting

  -- what waits after one more packet and those behind it, where it is known of these
  waiting-next : (met : List (List ℕ)) (waiting : Waiting) (p : List ℕ) (packets : List (List ℕ)) →
      waiting_from pid same_edit (met ++ p ∷ []) (given_after pid same_edit met waiting p).waiting packets
      ≡ waiting_from pid same_edit (packets_on pid (met ++ p ∷ [])) (given_after pid same_edit met waiting p).waiting (packets_on pid packets) →
      (b : Bool) → (pid_of p == pid) ≡ b →
      waiting_from pid same_edit (met ++ p ∷ []) (given_after pid same_edit met waiting p).waiting packets
      ≡ waiting_from pid same_edit (packets_on pid met) waiting (if b then p ∷ packets_on pid packets else packets_on pid packets)
  unfolding waiting_from
  waiting-next met waiting p packets rest true e =
      rest
      ∙ ap (λ before. waiting_from pid same_edit before (given_after pid same_edit met waiting p).waiting (packets_on pid packets)) (on-more pid met p true e)
      ∙ ap (λ g. waiting_from pid same_edit (packets_on pid met ++ p ∷ []) g.waiting (packets_on pid packets)) (given-on met waiting p e)
  waiting-next met waiting p packets rest false e =
      rest
      ∙ ap (λ before. waiting_from pid same_edit before (given_after pid same_edit met waiting p).waiting (packets_on pid packets)) (on-more pid met p false e ∙ append-nil (packets_on pid met))
      ∙ ap (λ w. waiting_from pid same_edit (packets_on pid met) w (packets_on pid packets)) (given-off met waiting p e)

  -- what waits after more packets
  waiting-on : (met : List (List ℕ)) (waiting : Waiting) (packets : List (List ℕ)) →
      waiting_from pid same_edit met waiting packets ≡ waiting_from pid same_edit (packets_on pid met) waiting (packets_on pid packets)
  unfolding waiting_from
  waiting-on met waiting [] = refl
  waiting-on met waiting (p ∷ packets) =
      waiting-next met waiting p packets (waiting-on (met ++ p ∷ []) (given_after pid same_edit met waiting p).waiting packets) (pid_of p == pid) refl

  -- what leaves in the place of a packet of the PID
  pub replaced-on : (met : List (List ℕ)) (p : List ℕ) → (pid_of p == pid) ≡ true → replaced pid same_edit met p ≡ replaced pid same_edit (packets_on pid met) p
  replaced-on met p e =
      replaced-is pid same_edit met p
      ∙ ap (λ g. g.packet) (given-on met (waiting_after pid same_edit met) p e)
      ∙ ap (λ w. (given_after pid same_edit (packets_on pid met) w p).packet) (waiting-on [] nothing_waits met)
      ∙ sym (replaced-is pid same_edit (packets_on pid met) p)
