-- What a test takes of a list, with one thing more.
use Rattle.std.proofs.Common.{◌≡◌, ℕ, ◌==◌, ◌&&◌, Bool, true, false, List, [], ◌∷◌, ◌++◌, filter, refl, sym, ◌∙◌, ap, append-nil, append_assoc, arith, subst}
use Rattle.std.specs.Prelude.{if◌then◌else◌, nat_eq}
use Rattle.std.proofs.lemmas.Bool.{eqb-true}
use Rattle.std.proofs.lemmas.Bool.Decides.{nat_tests}
use Rattle.std.proofs.lemmas.List.Elements.{filter-append}
use Rattle.ts_packet.specs.Header.{pid_of}
use Rattle.ts_demux.specs.TablesOn.{packets_on}
use Rattle.ts_demux.specs.TakenWhere.{taken_after, taken_on, taken_where}

-- one thing more, or none
abbrev pub with_if : {X : Type 0} → Bool → List X → X → List X
with_if taken xs x = if taken then xs ++ x ∷ [] else xs

cons_with : {X : Type 0} (b c : Bool) (x p : X) (xs : List X) → (if b then x ∷ with_if c xs p else with_if c xs p) ≡ with_if c (if b then x ∷ xs else xs) p
cons_with true true x p xs = refl
cons_with true false x p xs = refl
cons_with false true x p xs = refl
cons_with false false x p xs = refl

last_alone : {X : Type 0} (b : Bool) (p : X) → (if b then p ∷ [] else []) ≡ with_if b [] p
last_alone true p = refl
last_alone false p = refl

taken-behind :
    {X : Type 0} (test : List X → X → Bool) (before xs : List X) (p : X) →
    taken_after test before (xs ++ p ∷ []) ≡ with_if (test ((before ++ xs) ++ p ∷ []) p) (taken_after test before xs) p
unfolding taken_after
taken-behind test before [] p =
    last_alone (test (before ++ p ∷ []) p) p ∙ ap (λ t. with_if (test (t ++ p ∷ []) p) [] p) (sym (append-nil before))
taken-behind test before (x ∷ xs) p =
    let upto = before ++ x ∷ [] in
    let b = test upto x in
    ap (λ t. if b then x ∷ t else t) (taken-behind test upto xs p)
    ∙ ap (λ t. if b then x ∷ with_if (test (t ++ p ∷ []) p) (taken_after test upto xs) p else with_if (test (t ++ p ∷ []) p) (taken_after test upto xs) p) (append_assoc before (x ∷ []) xs)
    ∙ cons_with b (test ((before ++ x ∷ xs) ++ p ∷ []) p) x p (taken_after test upto xs)

-- the one law: one thing more is taken, or none
pub taken-more : {X : Type 0} (test : List X → X → Bool) (xs : List X) (p : X) → taken_where test (xs ++ p ∷ []) ≡ with_if (test (xs ++ p ∷ []) p) (taken_where test xs) p
taken-more test xs p = taken-behind test [] xs p

pub taken-none : {X : Type 0} (test : List X → X → Bool) → taken_where test [] ≡ []
unfolding taken_after
taken-none test = refl

same_number : (n : ℕ) → (n == n) ≡ true
same_number n = grind (arith, nat_tests)

-- on a packet's own PID the test of the PID tells
pub taken-own :
    (follows : ℕ → List (List ℕ) → Bool) (met : List (List ℕ)) (p : List ℕ) (b : Bool) → b ≡ follows (pid_of p) (met ++ p ∷ []) →
    taken_on follows (pid_of p) (met ++ p ∷ []) ≡ with_if b (taken_on follows (pid_of p) met) p
taken-own follows met p b e =
    taken-more (λ upto packet. (pid_of packet == pid_of p) && follows (pid_of p) upto) met p
    ∙ ap (λ t. with_if t (taken_on follows (pid_of p) met) p)
    (ap (λ t. t && follows (pid_of p) (met ++ p ∷ [])) (same_number (pid_of p)) ∙ sym e)

-- on any other PID it is not taken
pub taken-other :
    (follows : ℕ → List (List ℕ) → Bool) (pid : ℕ) (met : List (List ℕ)) (p : List ℕ) → nat_eq (pid_of p) pid ≡ false →
    taken_on follows pid (met ++ p ∷ []) ≡ taken_on follows pid met
taken-other follows pid met p e =
    taken-more (λ upto packet. (pid_of packet == pid) && follows pid upto) met p
    ∙ ap (λ b. with_if b (taken_on follows pid met) p) (ap (λ b. b && follows pid (met ++ p ∷ [])) e)

-- a packet whose own PID is not followed is taken on no PID
pub taken-unfollowed :
    (follows : ℕ → List (List ℕ) → Bool) (met : List (List ℕ)) (p : List ℕ) → follows (pid_of p) (met ++ p ∷ []) ≡ false →
    (pid : ℕ) → taken_on follows pid (met ++ p ∷ []) ≡ taken_on follows pid met
taken-unfollowed follows met p flag pid = by (nat_eq (pid_of p) pid) refl
  where
    by : (b : Bool) → nat_eq (pid_of p) pid ≡ b → taken_on follows pid (met ++ p ∷ []) ≡ taken_on follows pid met
    by false e = taken-other follows pid met p e
    by true e =
        subst (λ n. taken_on follows n (met ++ p ∷ []) ≡ taken_on follows n met) (eqb-true (pid_of p) pid e)
        (taken-own follows met p false (sym flag))

-- a test that does not look back filters
pub taken-filter : {X : Type 0} (test : X → Bool) (before xs : List X) → taken_after (λ upto x. test x) before xs ≡ filter test xs
unfolding taken_after
taken-filter test before [] = refl
taken-filter test before (x ∷ xs) = ap (λ t. if test x then x ∷ t else t) (taken-filter test (before ++ x ∷ []) xs)

-- tests that agree take the same
pub taken-same : {X : Type 0} (test other : List X → X → Bool) → ((upto : List X) (x : X) → test upto x ≡ other upto x) → (before xs : List X) → taken_after test before xs ≡ taken_after other before xs
unfolding taken_after
taken-same test other same before [] = refl
taken-same test other same before (x ∷ xs) =
    ap (λ b. if b then x ∷ taken_after test (before ++ x ∷ []) xs else taken_after test (before ++ x ∷ []) xs) (same (before ++ x ∷ []) x)
    ∙ ap (λ t. if other (before ++ x ∷ []) x then x ∷ t else t) (taken-same test other same (before ++ x ∷ []) xs)

-- tests that agree on a PID take the same on it
pub taken-agree : (follows other : ℕ → List (List ℕ) → Bool) (pid : ℕ) → ((upto : List (List ℕ)) → follows pid upto ≡ other pid upto) → (packets : List (List ℕ)) →
    taken_on follows pid packets ≡ taken_on other pid packets
taken-agree follows other pid same packets =
    taken-same (λ upto packet. (pid_of packet == pid) && follows pid upto) (λ upto packet. (pid_of packet == pid) && other pid upto)
    (λ upto packet. ap (λ b. (pid_of packet == pid) && b) (same upto)) [] packets

-- on a PID that is followed at each position all its packets are taken
pub taken-always : (follows : ℕ → List (List ℕ) → Bool) (pid : ℕ) → ((upto : List (List ℕ)) → follows pid upto ≡ true) → (packets : List (List ℕ)) → taken_on follows pid packets ≡ packets_on pid packets
taken-always follows pid always packets =
    taken-same (λ upto packet. (pid_of packet == pid) && follows pid upto) (λ upto packet. pid_of packet == pid)
    (λ upto packet. ap (λ b. (pid_of packet == pid) && b) (always upto) ∙ and_true (pid_of packet == pid)) [] packets
    ∙ taken-filter (λ packet. pid_of packet == pid) [] packets
  where
    and_true : (b : Bool) → (b && true) ≡ b
    and_true true = refl
    and_true false = refl

-- all packets on a PID, with one more
pub on-own : (pid : ℕ) (met : List (List ℕ)) (p : List ℕ) → pid_of p ≡ pid → packets_on pid (met ++ p ∷ []) ≡ packets_on pid met ++ p ∷ []
on-own pid met p at =
    filter-append (λ packet. pid_of packet == pid) met (p ∷ [])
    ∙ ap (λ b. packets_on pid met ++ (if b then p ∷ [] else [])) (ap (λ n. n == pid) at ∙ same_number pid)

pub on-other : (pid : ℕ) (met : List (List ℕ)) (p : List ℕ) → (pid_of p == pid) ≡ false → packets_on pid (met ++ p ∷ []) ≡ packets_on pid met
on-other pid met p e =
    filter-append (λ packet. pid_of packet == pid) met (p ∷ [])
    ∙ (ap (λ b. packets_on pid met ++ (if b then p ∷ [] else [])) e ∙ append-nil (packets_on pid met))
