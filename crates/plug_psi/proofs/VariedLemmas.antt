-- Editors whose edits may change, one packet more.
use Rattle.std.proofs.Common.{◌≡◌, ℕ, ◌+◌, ◌<◌, ◌==◌, ◌&&◌, Bool, true, false, List, [], ◌∷◌, ◌++◌, length, zero, suc, refl, sym, ◌∙◌, ap, arith, subst, length-append}
use Rattle.std.specs.Prelude.{if◌then◌else◌}
use Rattle.std.proofs.lemmas.Bool.Decides.{nat_tests}
use Rattle.ts_packet.specs.Header.{pid_of}
use Rattle.ts_demux.proofs.TakenLemmas.{on-other, on-own, taken-always}
use Rattle.ts_demux.specs.PidTables as demuxing
use Rattle.ts_demux.specs.TablesOn.{packets_on}
use Rattle.ts_demux.specs.TakenWhere.{taken_on}
use Rattle.ts_packetize.specs.Cycle.{CycleState}
use Rattle.plug_psi.specs.CycleStands.{InCyclesBy}
use Rattle.plug_psi.specs.EditedCycles.{replaced, replaced_by}
use Rattle.plug_psi.specs.Edits.{Change}
use Rattle.plug_psi.specs.EditorState.{Edits}
use Rattle.plug_psi.specs.InUse.{EditAsMet, always, edits_on, in_order, replaced_as, told_after}
use Rattle.plug_psi.specs.VariedStands.{Varies}
use Rattle.plug_psi.specs.declared.contents.Contents.{Contents}
use Rattle.plug_psi.specs.declared.varied_editor.VariedEditor.{VariedEditor}
use Rattle.plug_psi.proofs.EditorLemmas.{replaced-whole}
use Rattle.plug_psi.proofs.InUseLemmas.{edits-before, edits-here, known-before, told-length}

same_number : (n : ℕ) → (n == n) ≡ true
same_number n = grind (arith, nat_tests)

-- all packets on the PID are taken
all_taken : (pid : ℕ) (met : List (List ℕ)) → length (taken_on always pid met) ≡ length (packets_on pid met)
all_taken pid met = ap length (taken-always always pid (λ upto. refl) met)

taken_here : (pid : ℕ) (p : List ℕ) → pid_of p ≡ pid → ((pid_of p == pid) && true) ≡ true
taken_here pid p at = ap (λ n. (n == pid) && true) at ∙ ap (λ b. b && true) (same_number pid)

-- the edit in use at a packet on the PID is that which it tells with those before
pub in-use-here :
    (wanted : EditAsMet) (met : List (List ℕ)) (p : List ℕ) (pid : ℕ) → pid_of p ≡ pid →
    edits_on always pid wanted (met ++ p ∷ []) (length (packets_on pid met)) ≡ wanted (met ++ p ∷ [])
in-use-here wanted met p pid at =
    ap (edits_on always pid wanted (met ++ p ∷ [])) (sym (all_taken pid met))
    ∙ edits-here always pid wanted met p (taken_here pid p at)

-- an editor's parts know the edits at the packets before alone
pub varied-before :
    (wanted : EditAsMet) (met : List (List ℕ)) (p : List ℕ) (pid : ℕ) (own : List (List ℕ) → Change) {contents : Contents} {cycle : CycleState} {counter : ℕ} {changed : Bool} →
    Edits pid (edits_on always pid wanted met) own contents cycle counter changed (packets_on pid met) →
    Edits pid (edits_on always pid wanted (met ++ p ∷ [])) own contents cycle counter changed (packets_on pid met)
varied-before wanted met p pid own {contents} {cycle} {counter} {changed} h =
    known-before pid (edits_on always pid wanted met) (edits_on always pid wanted (met ++ p ∷ [])) own contents cycle counter changed (packets_on pid met)
    (λ s below. edits-before always pid wanted met p s (subst (λ n. s < n) (sym (all_taken pid met)) below)) h

-- before the first packet nothing is known of edits
pub varied-first :
    (wanted : EditAsMet) (pid : ℕ) (own : List (List ℕ) → Change) {contents : Contents} {cycle : CycleState} {counter : ℕ} {changed : Bool} →
    Edits pid (λ s. own) own contents cycle counter changed [] → Edits pid (edits_on always pid wanted []) own contents cycle counter changed []
varied-first wanted pid own {contents} {cycle} {counter} {changed} h =
    known-before pid (λ s. own) (edits_on always pid wanted []) own contents cycle counter changed []
    (λ s below. absurd (omega (arith, below))) h

-- the packets on the PID with one more
pub parts-behind :
    (wanted : EditAsMet) (met : List (List ℕ)) (p : List ℕ) (pid : ℕ) → pid_of p ≡ pid →
    (own : List (List ℕ) → Change) {contents : Contents} {cycle : CycleState} {counter : ℕ} {changed : Bool} →
    Edits pid (edits_on always pid wanted (met ++ p ∷ [])) own contents cycle counter changed (packets_on pid met ++ p ∷ []) →
    Edits pid (edits_on always pid wanted (met ++ p ∷ [])) own contents cycle counter changed (packets_on pid (met ++ p ∷ []))
parts-behind wanted met p pid at own {contents} {cycle} {counter} {changed} h =
    subst (Edits pid (edits_on always pid wanted (met ++ p ∷ [])) own contents cycle counter changed) (sym (on-own pid met p at)) h

-- a packet of another PID
pub varies-elsewhere :
    {E : Type 0} (own : List (List ℕ) → Change) (varied : VariedEditor E) (pid : ℕ) (wanted : EditAsMet) (met : List (List ℕ)) (p : List ℕ) →
    Varies own varied pid wanted met → (pid_of p == pid) ≡ false → Varies own varied pid wanted (met ++ p ∷ [])
varies-elsewhere own varied pid wanted met p h other = record {
  tables_read = subst (demuxing.StandsFor varied.tables pid) (sym (on-other pid met p other)) h.tables_read;
  edited =
      subst (λ t. InCyclesBy (edits_on always pid wanted (met ++ p ∷ [])) own varied.editor pid t) (sym (on-other pid met p other))
      (varied-before wanted met p pid own h.edited);
}

-- an edit that stays is told again and again
stays-told :
    (pid : ℕ) (edit : List (List ℕ) → Change) (before met : List (List ℕ)) (s : ℕ) → s < length (told_after always pid (λ upto. edit) before met) →
    in_order (told_after always pid (λ upto. edit) before met) s ≡ edit
unfolding told_after
stays-told pid edit before [] s h = absurd (omega (arith, h))
stays-told pid edit before (x ∷ met) s h = by (pid_of x == pid) s h (stays-told pid edit (before ++ x ∷ []) met)
  where
    rest : List (List (List ℕ) → Change)
    rest = told_after always pid (λ upto. edit) (before ++ x ∷ []) met

    by : (b : Bool) (s : ℕ) → s < length (if b && true then edit ∷ rest else rest) → ((t : ℕ) → t < length rest → in_order rest t ≡ edit) →
        in_order (if b && true then edit ∷ rest else rest) s ≡ edit
    by false s h more = more s h
    by true zero h more = refl
    by true (suc s) h more = more s (omega (arith, h))

-- so it is one edit of all packets
pub one-edit :
    (edit : List (List ℕ) → Change) (met : List (List ℕ)) (packet : List ℕ) →
    replaced_as (pid_of packet) (λ before. edit) met packet ≡ replaced (pid_of packet) edit (packets_on (pid_of packet) met) packet
unfolding replaced_by
one-edit edit met packet =
    let pid = pid_of packet in
    let after = met ++ packet ∷ [] in
    replaced-whole pid (λ s. edit) (edits_on always pid (λ before. edit) after) (packets_on pid met) [] packet
    (λ s below.
    let count : length (told_after always pid (λ upto. edit) [] after) ≡ length (packets_on pid met) + 1 =
    told-length always pid (λ upto. edit) [] after ∙ all_taken pid after ∙ ap length (on-own pid met packet refl) ∙ length-append (packets_on pid met) (packet ∷ []) in
    stays-told pid edit [] after s (omega (arith, below, count)))
