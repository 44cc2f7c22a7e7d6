-- Which edit is in use, one packet more.
use Rattle.std.proofs.Common.{◌≡◌, ℕ, ◌<◌, ◌==◌, ◌&&◌, Bool, true, false, List, [], ◌∷◌, ◌++◌, length, zero, suc, slice_get, refl, sym, ◌∙◌, ap, append-nil, append_assoc, arith, subst}
use Rattle.std.specs.Prelude.{if◌then◌else◌, unwrap_or}
use Rattle.ts_packet.specs.Header.{pid_of}
use Rattle.ts_demux.proofs.TakenLemmas.{with_if}
use Rattle.ts_demux.specs.TakenWhere.{taken_after, taken_on}
use Rattle.ts_packetize.specs.Cycle.{CycleState}
use Rattle.plug_psi.specs.EditedCycles.{EditsInUse}
use Rattle.plug_psi.specs.EditorState.{Edits}
use Rattle.plug_psi.specs.Edits.{Change, same}
use Rattle.plug_psi.specs.InUse.{edits_on, in_order, told_after, told_on}
use Rattle.plug_psi.specs.declared.contents.Contents.{Contents}

cons_with : {K : Type 0} (b c : Bool) (x p : K) (xs : List K) → (if b then x ∷ with_if c xs p else with_if c xs p) ≡ with_if c (if b then x ∷ xs else xs) p
cons_with true true x p xs = refl
cons_with true false x p xs = refl
cons_with false true x p xs = refl
cons_with false false x p xs = refl

last_alone : {K : Type 0} (b : Bool) (p : K) → (if b then p ∷ [] else []) ≡ with_if b [] p
last_alone true p = refl
last_alone false p = refl

told-behind :
    {K : Type 0} (follows : ℕ → List (List ℕ) → Bool) (pid : ℕ) (tell : List (List ℕ) → K) (before met : List (List ℕ)) (p : List ℕ) →
    told_after follows pid tell before (met ++ p ∷ []) ≡ with_if ((pid_of p == pid) && follows pid ((before ++ met) ++ p ∷ [])) (told_after follows pid tell before met) (tell ((before ++ met) ++ p ∷ []))
unfolding told_after
told-behind follows pid tell before [] p =
    last_alone ((pid_of p == pid) && follows pid (before ++ p ∷ [])) (tell (before ++ p ∷ []))
    ∙ ap (λ t. with_if ((pid_of p == pid) && follows pid (t ++ p ∷ [])) [] (tell (t ++ p ∷ []))) (sym (append-nil before))
told-behind follows pid tell before (x ∷ met) p =
    let upto = before ++ x ∷ [] in
    let b = (pid_of x == pid) && follows pid upto in
    let told = told_after follows pid tell upto met in
    ap (λ t. if b then tell upto ∷ t else t) (told-behind follows pid tell upto met p)
    ∙ ap (λ t. if b then tell upto ∷ with_if ((pid_of p == pid) && follows pid (t ++ p ∷ [])) told (tell (t ++ p ∷ [])) else with_if ((pid_of p == pid) && follows pid (t ++ p ∷ [])) told (tell (t ++ p ∷ [])))
    (append_assoc before (x ∷ []) met)
    ∙ cons_with b ((pid_of p == pid) && follows pid ((before ++ x ∷ met) ++ p ∷ [])) (tell upto) (tell ((before ++ x ∷ met) ++ p ∷ [])) told

-- as many things are told as packets are taken
same_count : {K : Type 0} (b : Bool) (x : List ℕ) (k : K) (xs : List (List ℕ)) (ks : List K) → length ks ≡ length xs → length (if b then k ∷ ks else ks) ≡ length (if b then x ∷ xs else xs)
same_count true x k xs ks e = ap suc e
same_count false x k xs ks e = e

pub told-length :
    {K : Type 0} (follows : ℕ → List (List ℕ) → Bool) (pid : ℕ) (tell : List (List ℕ) → K) (before met : List (List ℕ)) →
    length (told_after follows pid tell before met) ≡ length (taken_after (λ upto packet. (pid_of packet == pid) && follows pid upto) before met)
unfolding told_after taken_after
told-length follows pid tell before [] = refl
told-length follows pid tell before (x ∷ met) =
    let upto = before ++ x ∷ [] in
    let test : List (List ℕ) → List ℕ → Bool = λ upto packet. (pid_of packet == pid) && follows pid upto in
    same_count (test upto x) x (tell upto) (taken_after test upto met) (told_after follows pid tell upto met) (told-length follows pid tell upto met)

-- what stands in a list stands there with one thing more behind it, and that is last
get-before : {K : Type 0} (ks : List K) (k none : K) (s : ℕ) → s < length ks → unwrap_or (slice_get (ks ++ k ∷ []) s) none ≡ unwrap_or (slice_get ks s) none
get-before [] k none s h = absurd (omega (arith, h))
get-before (x ∷ ks) k none zero h = refl
get-before (x ∷ ks) k none (suc s) h = get-before ks k none s (omega (arith, h))

get-last : {K : Type 0} (ks : List K) (k none : K) → unwrap_or (slice_get (ks ++ k ∷ []) (length ks)) none ≡ k
get-last [] k none = refl
get-last (x ∷ ks) k none = get-last ks k none

before-with : {K : Type 0} (b : Bool) (ks : List K) (k none : K) (s : ℕ) → s < length ks → unwrap_or (slice_get (with_if b ks k) s) none ≡ unwrap_or (slice_get ks s) none
before-with true ks k none s h = get-before ks k none s h
before-with false ks k none s h = refl

-- the edits at the packets before do not change
pub edits-before :
    (follows : ℕ → List (List ℕ) → Bool) (pid : ℕ) (edit : List (List ℕ) → List (List ℕ) → Change) (met : List (List ℕ)) (p : List ℕ) (s : ℕ) →
    s < length (taken_on follows pid met) → edits_on follows pid edit (met ++ p ∷ []) s ≡ edits_on follows pid edit met s
edits-before follows pid edit met p s h =
    ap (λ es. in_order es s) (told-behind follows pid edit [] met p)
    ∙ before-with ((pid_of p == pid) && follows pid (met ++ p ∷ [])) (told_on follows pid edit met) (edit (met ++ p ∷ [])) (λ run. same) s
    (subst (λ n. s < n) (sym (told-length follows pid edit [] met)) h)

-- at a packet that is taken it is the edit that the packets with it tell
pub edits-here :
    (follows : ℕ → List (List ℕ) → Bool) (pid : ℕ) (edit : List (List ℕ) → List (List ℕ) → Change) (met : List (List ℕ)) (p : List ℕ) →
    ((pid_of p == pid) && follows pid (met ++ p ∷ [])) ≡ true → edits_on follows pid edit (met ++ p ∷ []) (length (taken_on follows pid met)) ≡ edit (met ++ p ∷ [])
edits-here follows pid edit met p taken =
    ap (λ n. edits_on follows pid edit (met ++ p ∷ []) n) (sym (told-length follows pid edit [] met))
    ∙ ap (λ es. in_order es (length (told_on follows pid edit met))) (told-behind follows pid edit [] met p ∙ ap (λ b. with_if b (told_on follows pid edit met) (edit (met ++ p ∷ []))) taken)
    ∙ get-last (told_on follows pid edit met) (edit (met ++ p ∷ [])) (λ run. same)

-- parts of an editor know the edits at the packets before alone
pub known-before :
    (pid : ℕ) (edits others : EditsInUse) (edit : List (List ℕ) → Change) (contents : Contents) (cycle : CycleState) (counter : ℕ) (changed : Bool) (taken : List (List ℕ)) →
    ((s : ℕ) → s < length taken → others s ≡ edits s) → Edits pid edits edit contents cycle counter changed taken → Edits pid others edit contents cycle counter changed taken
known-before pid edits others edit contents cycle counter changed taken alike h = record {
  contents_taken = h.contents_taken;
  same_pid = h.same_pid;
  to_come = λ later more e. h.to_come later more (λ s below. e s below ∙ alike s below);
  unchanged = h.unchanged;
}
