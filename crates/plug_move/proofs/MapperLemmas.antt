-- Tables whose PIDs are mapped, one packet more.
use Rattle.std.proofs.Common.{◌≡◌, Result, Ok, Err, ℕ, ◌||◌, true, false, List, [], ◌∷◌, ◌++◌, Option, Some, None, sym, ◌∙◌, ap, subst}
use Rattle.std.specs.Prelude.{MatchOption, nat_eq}
use Rattle.ts_packet.specs.Header.{pid_of}
use Rattle.ts_demux.specs.TablesOn.{Completes, packets_on}
use Rattle.ts_demux.specs.TakenWhere.{taken_on}
use Rattle.ts_demux.proofs.TakenLemmas.{taken-agree, taken-always}
use Rattle.plug_psi.specs.EditedCycles.{replaced}
use Rattle.plug_psi.specs.InForce.{follows}
use Rattle.plug_psi.proofs.Choice.{if_false, if_true}
use Rattle.plug_move.specs.CompletedTables.{IsCompleted}
use Rattle.plug_move.specs.MappedTables.{change_on}
use Rattle.plug_move.specs.RemapRule.{edited, is_edited, is_fixed, moved_edited, moved_to, with_tables}
use Rattle.plug_move.specs.Targets.{target_of}

-- a packet on a fixed PID completes the tables of all packets there
pub fixed-completed :
    (n : ℕ) (met : List (List ℕ)) (p : List ℕ) (tables : List (List (List ℕ))) → is_fixed n ≡ true → pid_of p ≡ n →
    Completes n (packets_on n met) p tables → IsCompleted met p tables
fixed-completed n met p tables fixed at completes =
    let edited = λ (upto : List (List ℕ)). ap (λ b. b || follows n upto) fixed in
    record {
      edited = ap (λ m. is_edited m (met ++ p ∷ [])) at ∙ edited (met ++ p ∷ []);
      completes = subst (λ m. Completes m (taken_on is_edited m met) p tables) (sym at)
          (subst (λ ps. Completes n ps p tables) (sym (taken-always is_edited n edited met)) completes);
    }

-- one on a PID that the PAT in force names, those of the packets that are taken there
pub named-completed :
    (met : List (List ℕ)) (p : List ℕ) (tables : List (List (List ℕ))) → is_fixed (pid_of p) ≡ false → follows (pid_of p) (met ++ p ∷ []) ≡ true →
    Completes (pid_of p) (taken_on follows (pid_of p) met) p tables → IsCompleted met p tables
named-completed met p tables fixed flag completes = record {
  edited = ap (λ b. b || follows (pid_of p) (met ++ p ∷ [])) fixed ∙ flag;
  completes = subst (λ ps. Completes (pid_of p) ps p tables)
      (sym (taken-agree is_edited follows (pid_of p) (λ upto. ap (λ b. b || follows (pid_of p) upto) fixed) met)) completes;
}

pub not-fixed : (pid : ℕ) (p : List ℕ) → pid ≡ pid_of p → nat_eq pid 0 ≡ false → nat_eq pid 1 ≡ false → is_fixed (pid_of p) ≡ false
not-fixed pid p at zero one = ap is_fixed (sym at) ∙ ap (λ b. b || nat_eq pid 1) zero ∙ one

-- what a match gives for none, or for one
pub none-told : {X : Type 0} (P : Type 0) (Q : X → Type 0) (o : Option X) → o ≡ None → MatchOption o P Q → P
none-told P Q None e m = m
none-told P Q (Some x) e m = cc

pub some-told : {X : Type 0} (P : Type 0) (Q : X → Type 0) (o : Option X) (x : X) → o ≡ Some x → MatchOption o P Q → Q x
some-told P Q None x e m = cc
some-told P Q (Some y) x e m = subst Q (let same : y ≡ x = cc in same) m

-- an error is no value, and one is not none
pub err-none : {X E : Type 0} (e : E) (v : X) → (let r : Result X E = Err e in r) ≡ Ok v → ⊥
err-none e v same = cc

pub some-none : {X E : Type 0} (o : Option X) (x : X) → o ≡ Some x → (let r : Result (Option X) E = Ok o in r) ≡ Ok None → ⊥
some-none None x e same = cc
some-none (Some y) x e same = cc

-- what the rule makes of a packet that is edited
pub made-edited :
    (pairs own : List (ℕ × ℕ)) (met : List (List ℕ)) (p put made : List ℕ) (target : Option ℕ) → own ≡ pairs → target ≡ target_of pairs (pid_of p) →
    is_edited (pid_of p) (met ++ p ∷ []) ≡ true → put ≡ replaced (pid_of p) (change_on own (pid_of p)) (taken_on is_edited (pid_of p) met) p → made ≡ moved_edited target put →
    made ≡ with_tables pairs met p
made-edited pairs own met p put made target same is flag f e =
    e ∙ ap (λ t. moved_edited t put) is
    ∙ ap (moved_edited (target_of pairs (pid_of p))) (f ∙ ap (λ ps. replaced (pid_of p) (change_on ps (pid_of p)) (taken_on is_edited (pid_of p) met) p) same)
    ∙ sym (if_true (is_edited (pid_of p) (met ++ p ∷ [])) (moved_edited (target_of pairs (pid_of p)) (edited pairs met p)) (moved_to (target_of pairs (pid_of p)) p) flag)

-- and of one that is not
pub made-unedited :
    (pairs : List (ℕ × ℕ)) (met : List (List ℕ)) (p made : List ℕ) (target : Option ℕ) → target ≡ target_of pairs (pid_of p) →
    is_edited (pid_of p) (met ++ p ∷ []) ≡ false → made ≡ moved_to target p → made ≡ with_tables pairs met p
made-unedited pairs met p made target is flag e =
    e ∙ ap (λ t. moved_to t p) is
    ∙ sym (if_false (is_edited (pid_of p) (met ++ p ∷ [])) (moved_edited (target_of pairs (pid_of p)) (edited pairs met p)) (moved_to (target_of pairs (pid_of p)) p) flag)
