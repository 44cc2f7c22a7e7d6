-- Tables in force, one packet more.
use Rattle.std.proofs.Common.{◌≡◌, ℕ, ◌==◌, ◌||◌, Bool, true, false, List, [], ◌∷◌, ◌++◌, Option, Some, None, refl, sym, ◌∙◌, ap, subst, true≢false}
use Rattle.std.specs.Prelude.{nat_eq, option_map}
use Rattle.std.proofs.lemmas.Bool.{eqb-true}
use Rattle.ts_packet.specs.Header.{pid_of}
use Rattle.ts_demux.specs.TablesOn.{packets_on, tables_on}
use Rattle.ts_demux.specs.TakenWhere.{taken_on}
use Rattle.ts_demux.proofs.TakenLemmas.{taken-other, taken-own, taken-unfollowed}
use Rattle.ts_psi.specs.PatTables.{pat_held}
use Rattle.ts_psi.specs.declared.pat.Pat.{Pat}
use Rattle.ts_table_rows.specs.TableValues.{TableHolding}
use Rattle.plug_psi.specs.LastFound.{last_found}
use Rattle.plug_psi.specs.InForce.{current_pat, current_pmt, follows, is_named, may_have_tables, pat_of, pmt_on, pmt_of, pmt_at, pid_for}
use Rattle.plug_psi.specs.ForceState.{HasPat}
use Rattle.plug_psi.specs.KeptTables.{KeepsPat, TellsFound}
use Rattle.plug_psi.specs.SameForce.{SameInForce}
use Rattle.plug_psi.specs.declared.kept.Kept.{Kept}
use Rattle.plug_psi.specs.declared.reading.Reading.{Reading}
use Rattle.plug_psi.proofs.Choice.{neither}
use Rattle.plug_psi.proofs.FoundLemmas.{found-none, found-on, found-other, found-same, reads-other}

-- the PAT that is kept is the one in force
pub pat-kept : (zero : Reading (Option Pat)) (fed : List (List ℕ)) → HasPat zero fed → option_map pat_held zero.follower ≡ pat_of fed
unfolding pat_of
pat-kept zero fed h = h.1 ∙ found-on current_pat 0 fed

-- where none was kept with a packet on PID 0 the same one is in force
pub pat-same : (fed : List (List ℕ)) (p : List ℕ) (kept : Kept) → pid_of p ≡ 0 → TellsFound current_pat 0 (packets_on 0 fed) p kept → kept.came ≡ false → pat_of (fed ++ p ∷ []) ≡ pat_of fed
unfolding pat_of
pat-same fed p kept at tells none = found-same current_pat 0 fed p kept at tells none

-- so it is with a packet on another PID
pub pat-other : (fed : List (List ℕ)) (p : List ℕ) → (pid_of p == 0) ≡ false → pat_of (fed ++ p ∷ []) ≡ pat_of fed
unfolding pat_of
pat-other fed p other = found-other current_pat 0 fed p other

-- whether the packet's PID is followed, by the PAT that is kept
pub flag-is : (zero : Reading (Option Pat)) (fed : List (List ℕ)) (p : List ℕ) (pid : ℕ) (b : Bool) →
    HasPat zero (fed ++ p ∷ []) → pid ≡ pid_of p → is_named (option_map pat_held zero.follower) pid ≡ b → follows (pid_of p) (fed ++ p ∷ []) ≡ b
flag-is zero fed p pid b h at flag =
    ap (is_named (pat_of (fed ++ p ∷ []))) (sym at) ∙ ap (λ pat. is_named pat pid) (sym (pat-kept zero (fed ++ p ∷ []) h)) ∙ flag

-- whether tables may come with a packet on a PID, by the PAT that is kept
may-come : (zero : Reading (Option Pat)) (fed : List (List ℕ)) (p : List ℕ) (pid : ℕ) → HasPat zero fed → pid ≡ pid_of p →
    ((pid == 0) || is_named (option_map pat_held zero.follower) pid) ≡ may_have_tables (pid_of p) fed
may-come zero fed p pid h at =
    ap (λ n. (n == 0) || is_named (option_map pat_held zero.follower) n) at
    ∙ ap (λ pat. (pid_of p == 0) || is_named pat (pid_of p)) (pat-kept zero fed h)

-- where they may, the PID is not one without tables
pub none-comes : (zero : Reading (Option Pat)) (fed : List (List ℕ)) (p : List ℕ) (pid : ℕ) → HasPat zero fed → pid ≡ pid_of p →
    ((pid == 0) || is_named (option_map pat_held zero.follower) pid) ≡ true → may_have_tables (pid_of p) fed ≡ false → ⊥
none-comes zero fed p pid h at some none = true≢false (sym some ∙ may-come zero fed p pid h at ∙ none)

-- a packet on a PID on which no table counts: it is not 0, and it is not followed
pub record Unread (zero : Reading (Option Pat)) (fed : List (List ℕ)) (p : List ℕ) : Type 0 where
  pub other : (pid_of p == 0) ≡ false
  pub pat_fed : HasPat zero (fed ++ p ∷ [])
  pub same : pat_of (fed ++ p ∷ []) ≡ pat_of fed
  pub flag : follows (pid_of p) (fed ++ p ∷ []) ≡ false

pub unread : (zero : Reading (Option Pat)) (fed : List (List ℕ)) (p : List ℕ) (pid : ℕ) → HasPat zero fed → pid ≡ pid_of p →
    ((pid == 0) || is_named (option_map pat_held zero.follower) pid) ≡ false → Unread zero fed p
unread zero fed p pid h at none =
    let both = neither (pid == 0) (is_named (option_map pat_held zero.follower) pid) none in
    let other : (pid_of p == 0) ≡ false = ap (λ n. n == 0) (sym at) ∙ both.0 in
    let fed_more = reads-other KeepsPat zero 0 fed p other h in
    record { other = other; pat_fed = fed_more; same = pat-other fed p other; flag = flag-is zero fed p pid false fed_more at both.1 }

-- nothing was taken: there is no PMT
pub pmt-none : (service pid : ℕ) (fed : List (List ℕ)) → taken_on follows pid fed ≡ [] → None ≡ pmt_on pid service fed
unfolding pmt_on
pmt-none service pid fed e =
    sym (ap (λ ps. last_found (current_pmt service) (tables_on pid ps)) e ∙ found-none (current_pmt service) pid)

pub pmt-is : (service : ℕ) (fed : List (List ℕ)) (pat : Option TableHolding) (pid : Option ℕ) → pat ≡ pat_of fed → pid ≡ pid_for pat service → pmt_at service fed pid ≡ pmt_of service fed
pmt-is service fed pat pid e f = ap (pmt_at service fed) (f ∙ ap (λ p. pid_for p service) e)

pub pmt-on : (service pid : ℕ) (fed : List (List ℕ)) → last_found (current_pmt service) (tables_on pid (taken_on follows pid fed)) ≡ pmt_on pid service fed
unfolding pmt_on
pmt-on service pid fed = refl

pmt-same : (service pid : ℕ) (fed : List (List ℕ)) (p : List ℕ) → taken_on follows pid (fed ++ p ∷ []) ≡ taken_on follows pid fed → pmt_on pid service (fed ++ p ∷ []) ≡ pmt_on pid service fed
unfolding pmt_on
pmt-same service pid fed p e = ap (λ ps. last_found (current_pmt service) (tables_on pid ps)) e

same-in_force : (fed : List (List ℕ)) (p : List ℕ) → pat_of (fed ++ p ∷ []) ≡ pat_of fed →
    ((service pid : ℕ) → pmt_on pid service (fed ++ p ∷ []) ≡ pmt_on pid service fed) → SameInForce fed p
same-in_force fed p pat pmts = record {
  pat = pat;
  pmts = λ service. ap (λ o. pmt_at service (fed ++ p ∷ []) (pid_for o service)) pat ∙ at service (pid_for (pat_of fed) service);
}
  where
    at : (service : ℕ) (pid : Option ℕ) → pmt_at service (fed ++ p ∷ []) pid ≡ pmt_at service fed pid
    at service None = refl
    at service (Some pid) = pmts service pid

-- the packet's PID is not followed
pub same-unfollowed : (fed : List (List ℕ)) (p : List ℕ) → pat_of (fed ++ p ∷ []) ≡ pat_of fed → follows (pid_of p) (fed ++ p ∷ []) ≡ false → SameInForce fed p
same-unfollowed fed p pat flag = same-in_force fed p pat (λ service pid. pmt-same service pid fed p (taken-unfollowed follows fed p flag pid))

-- it is, and with the packet no other PMT is found on its PID
pub same-followed : (fed : List (List ℕ)) (p : List ℕ) → pat_of (fed ++ p ∷ []) ≡ pat_of fed → follows (pid_of p) (fed ++ p ∷ []) ≡ true →
    ((service : ℕ) → last_found (current_pmt service) (tables_on (pid_of p) (taken_on follows (pid_of p) fed ++ p ∷ [])) ≡ last_found (current_pmt service) (tables_on (pid_of p) (taken_on follows (pid_of p) fed))) →
    SameInForce fed p
same-followed fed p pat flag here = same-in_force fed p pat (λ service pid. by service pid (nat_eq (pid_of p) pid) refl)
  where
    own : (service : ℕ) → pmt_on (pid_of p) service (fed ++ p ∷ []) ≡ pmt_on (pid_of p) service fed
    own service =
        sym (pmt-on service (pid_of p) (fed ++ p ∷ []))
        ∙ ap (λ ps. last_found (current_pmt service) (tables_on (pid_of p) ps)) (taken-own follows fed p true (sym flag))
        ∙ here service ∙ pmt-on service (pid_of p) fed

    by : (service pid : ℕ) (b : Bool) → nat_eq (pid_of p) pid ≡ b → pmt_on pid service (fed ++ p ∷ []) ≡ pmt_on pid service fed
    by service pid false e = pmt-same service pid fed p (taken-other follows pid fed p e)
    by service pid true e = subst (λ n. pmt_on n service (fed ++ p ∷ []) ≡ pmt_on n service fed) (eqb-true (pid_of p) pid e) (own service)
