-- What leaves in the places of packets, one by one.
use Rattle.std.proofs.Common.{◌≡◌, ◌==◌, ℕ, false, List, [], ◌∷◌, ◌++◌, sym, ◌∙◌, ap, append_assoc, append-nil}
use Rattle.ts_packet.specs.Header.{pid_of}
use Rattle.section_flow.specs.Flow.{Edit, Waiting, nothing_waits, with_sections, ready_with, given_after, waiting_from, waiting_after, given_from, all_given, replaced}
use Rattle.section_flow.proofs.Placing.{given-other}
use Rattle.section_flow.proofs.FlowLemmas.{replaced-is}

pub other-untouched : (pid : ℕ) (edit : Edit) (met : List (List ℕ)) (packet : List ℕ) → (pid_of packet == pid) ≡ false → replaced pid edit met packet ≡ packet
other-untouched pid edit met packet e =
    replaced-is pid edit met packet
    ∙ ap (λ g. g.packet) (given-other pid (with_sections (waiting_after pid edit met) (ready_with pid edit met packet)) packet e)

given_from-more :
    (pid : ℕ) (edit : Edit) (met : List (List ℕ)) (waiting : Waiting) (packets : List (List ℕ)) (packet : List ℕ) →
    given_from pid edit met waiting (packets ++ packet ∷ [])
    ≡ given_from pid edit met waiting packets ++ (given_after pid edit (met ++ packets) (waiting_from pid edit met waiting packets) packet).packet ∷ []
unfolding waiting_from given_from
given_from-more pid edit met waiting [] packet = ap (λ m. (given_after pid edit m waiting packet).packet ∷ []) (sym (append-nil met))
given_from-more pid edit met waiting (p ∷ packets) packet =
    let given = given_after pid edit met waiting p in
    ap (λ t. given.packet ∷ t)
    (given_from-more pid edit (met ++ p ∷ []) given.waiting packets packet
    ∙ ap (λ m. given_from pid edit (met ++ p ∷ []) given.waiting packets ++ (given_after pid edit m (waiting_from pid edit (met ++ p ∷ []) given.waiting packets) packet).packet ∷ []) (append_assoc met (p ∷ []) packets))

pub all-given : (pid : ℕ) (edit : Edit) (met : List (List ℕ)) (packet : List ℕ) → all_given pid edit (met ++ packet ∷ []) ≡ all_given pid edit met ++ replaced pid edit met packet ∷ []
all-given pid edit met packet =
    given_from-more pid edit [] nothing_waits met packet
    ∙ ap (λ p. all_given pid edit met ++ p ∷ []) (sym (replaced-is pid edit met packet))
