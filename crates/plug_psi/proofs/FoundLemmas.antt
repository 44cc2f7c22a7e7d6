-- What is found in the last of some tables, one packet after another.
use Rattle.std.proofs.Common.{◌≡◌, ℕ, ◌==◌, false, List, [], ◌∷◌, ◌++◌, fold, Option, Some, None, refl, sym, ◌∙◌, ap, subst}
use Rattle.std.specs.List.{filter_map, cons_option}
use Rattle.std.proofs.lemmas.Bool.{ne_eqb}
use Rattle.std.proofs.lemmas.List.Sums.{fold-append}
use Rattle.ts_packet.specs.Header.{pid_of}
use Rattle.ts_demux.specs.TablesOn.{Completes, packets_on, tables_on}
use Rattle.ts_demux.proofs.TablesAfter.{no_tables}
use Rattle.ts_demux.proofs.TakenLemmas.{on-other, on-own}
use Rattle.ts_demux.proofs.UncountedPackets.{same-tables}
use Rattle.plug_psi.specs.LastFound.{found_after, newer, last_found, last_one}
use Rattle.plug_psi.specs.KeptTables.{TellsFound}
use Rattle.plug_psi.specs.ReadingState.{Reads}
use Rattle.plug_psi.specs.declared.kept.Kept.{Kept}
use Rattle.plug_psi.specs.declared.reading.Reading.{Reading}

pub found-none : {X : Type 0} (found : List (List ℕ) → Option X) (pid : ℕ) → last_found found (tables_on pid []) ≡ None
unfolding last_found
found-none found pid = ap (found_after found None) (no_tables pid)

-- what is kept becomes, with the tables that a packet completes, what is found in all
pub found-more :
    {X : Type 0} (found : List (List ℕ) → Option X) (old new : Option X) (list tables : List (List (List ℕ))) (pid : ℕ) (taken : List (List ℕ)) (packet : List ℕ) →
    list ≡ tables → new ≡ found_after found old list →
    old ≡ last_found found (tables_on pid taken) → Completes pid taken packet tables → new ≡ last_found found (tables_on pid (taken ++ packet ∷ []))
unfolding last_found
found-more found old new list tables pid taken packet same kept before completes =
    kept ∙ ap (found_after found old) same ∙ ap (λ o. found_after found o tables) before
    ∙ sym (fold-append (λ o table. newer o (found table)) None (tables_on pid taken) tables)
    ∙ sym (ap (found_after found None) completes)

-- what is found in the tables of the packets on a PID is found in those of all packets
pub found-on : {X : Type 0} (found : List (List ℕ) → Option X) (pid : ℕ) (met : List (List ℕ)) →
    last_found found (tables_on pid (packets_on pid met)) ≡ last_found found (tables_on pid met)
found-on found pid met = ap (last_found found) (same-tables pid met)

found-as : {X : Type 0} (found : List (List ℕ) → Option X) (pid : ℕ) (met : List (List ℕ)) (p : List ℕ) (ps : List (List ℕ)) → packets_on pid (met ++ p ∷ []) ≡ ps →
    last_found found (tables_on pid ps) ≡ last_found found (tables_on pid (packets_on pid met)) → last_found found (tables_on pid (met ++ p ∷ [])) ≡ last_found found (tables_on pid met)
found-as found pid met p ps more same =
    sym (found-on found pid (met ++ p ∷ [])) ∙ ap (λ qs. last_found found (tables_on pid qs)) more ∙ same ∙ found-on found pid met

-- where nothing was kept of a packet on the PID, the same is found as before
pub found-same : {X : Type 0} (found : List (List ℕ) → Option X) (pid : ℕ) (met : List (List ℕ)) (p : List ℕ) (kept : Kept) → pid_of p ≡ pid →
    TellsFound found pid (packets_on pid met) p kept → kept.came ≡ false → last_found found (tables_on pid (met ++ p ∷ [])) ≡ last_found found (tables_on pid met)
found-same found pid met p kept at tells none = found-as found pid met p (packets_on pid met ++ p ∷ []) (on-own pid met p at) (tells.same none)

-- so it is with a packet on another PID
pub found-other : {X : Type 0} (found : List (List ℕ) → Option X) (pid : ℕ) (met : List (List ℕ)) (p : List ℕ) → (pid_of p == pid) ≡ false →
    last_found found (tables_on pid (met ++ p ∷ [])) ≡ last_found found (tables_on pid met)
found-other found pid met p other = found-as found pid met p (packets_on pid met) (on-other pid met p other) refl

-- what took a packet on the PID stands for the packets of any PID with it
pub reads-own : {T : Type 0} (stands : T → ℕ → List (List ℕ) → Type 0) (it : Reading T) (pid : ℕ) (met : List (List ℕ)) (p : List ℕ) → pid_of p ≡ pid →
    Reads stands it pid (packets_on pid met ++ p ∷ []) → Reads stands it pid (packets_on pid (met ++ p ∷ []))
reads-own stands it pid met p at h = subst (Reads stands it pid) (sym (on-own pid met p at)) h

-- and what took none does so with a packet on another PID
pub reads-other : {T : Type 0} (stands : T → ℕ → List (List ℕ) → Type 0) (it : Reading T) (pid : ℕ) (met : List (List ℕ)) (p : List ℕ) → (pid_of p == pid) ≡ false →
    Reads stands it pid (packets_on pid met) → Reads stands it pid (packets_on pid (met ++ p ∷ []))
reads-other stands it pid met p other h = subst (Reads stands it pid) (sym (on-other pid met p other)) h

-- a packet is on another PID where its PID, read as a number, is another one
pub other-pid : (pid n : ℕ) (p : List ℕ) → n ≡ pid_of p → (n ≡ pid → ⊥) → (pid_of p == pid) ≡ false
other-pid pid n p at ne = ap (λ m. m == pid) (sym at) ∙ ne_eqb n pid ne

-- The reading without steps.

newer_on : {X : Type 0} (a b c : Option X) → newer (newer a b) c ≡ newer a (newer b c)
newer_on a b None = refl
newer_on a b (Some x) = refl

consed : {X : Type 0} (o : Option X) (xs : List X) → newer o (last_one xs) ≡ last_one (cons_option o xs)
consed None xs = no_first (last_one xs)
  where
    no_first : {X : Type 0} (o : Option X) → newer None o ≡ o
    no_first None = refl
    no_first (Some x) = refl
consed (Some x) xs = refl

by_fold : {X : Type 0} (found : List (List ℕ) → Option X) (old : Option X) (tables : List (List (List ℕ))) →
    fold (λ o table. newer o (found table)) old tables ≡ newer old (last_one (filter_map found tables))
by_fold found old [] = refl
by_fold found old (t ∷ ts) =
    by_fold found (newer old (found t)) ts ∙ newer_on old (found t) (last_one (filter_map found ts)) ∙ ap (newer old) (consed (found t) (filter_map found ts))

-- what is found last is the last of all that is found
pub last-is : {X : Type 0} (found : List (List ℕ) → Option X) (tables : List (List (List ℕ))) → last_found found tables ≡ last_one (filter_map found tables)
unfolding last_found
last-is found tables = by_fold found None tables ∙ of_none (last_one (filter_map found tables))
  where
    of_none : {X : Type 0} (o : Option X) → newer None o ≡ o
    of_none None = refl
    of_none (Some x) = refl
