-- PIDs that the tables in force name.
use Rattle.std.proofs.Common.{◌≡◌, ℕ, ◌==◌, ◌&&◌, not, false, List, [], ◌∷◌, ◌++◌, None, ◌∙◌, ap, ap₂}
use Rattle.std.specs.Prelude.{option_map}
use Rattle.ts_packet.specs.Header.{pid_of}
use Rattle.ts_demux.specs.TablesOn.{packets_on}
use Rattle.ts_psi.specs.CatTables.{cat_held}
use Rattle.plug_psi.specs.InForce.{current_pat, pat_of, pmt_of}
use Rattle.plug_psi.specs.CatInForce.{cat_of, current_cat}
use Rattle.plug_psi.specs.KeptTables.{TellsFound}
use Rattle.plug_psi.specs.Referred.{named_in, named_pids}
use Rattle.plug_psi.specs.ReferredState.{HasCat}
use Rattle.plug_psi.specs.SameForce.{SameInForce}
use Rattle.plug_psi.specs.ServicePids.{has_pid}
use Rattle.plug_psi.specs.declared.kept.Kept.{Kept}
use Rattle.plug_psi.specs.declared.kept_cat.KeptCat.{KeptCat}
use Rattle.plug_psi.specs.declared.reading.Reading.{Reading}
use Rattle.plug_psi.proofs.FlagLemmas.{and_true}
use Rattle.plug_psi.proofs.FoundLemmas.{found-none, found-on, found-other, found-same}

pat-none : pat_of [] ≡ None
unfolding pat_of
pat-none = found-none current_pat 0

cat-none : cat_of [] ≡ None
unfolding cat_of
cat-none = found-none current_cat 1

-- the CAT that is kept is the one in force
pub cat-kept : (one : Reading KeptCat) (fed : List (List ℕ)) → HasCat one fed → option_map cat_held one.follower.cat ≡ cat_of fed
unfolding cat_of
cat-kept one fed h = h.1 ∙ found-on current_cat 1 fed

-- where none was kept with a packet on PID 1 the same one is in force
pub cat-same : (fed : List (List ℕ)) (p : List ℕ) (kept : Kept) → pid_of p ≡ 1 → TellsFound current_cat 1 (packets_on 1 fed) p kept → kept.came ≡ false → cat_of (fed ++ p ∷ []) ≡ cat_of fed
unfolding cat_of
cat-same fed p kept at tells none = found-same current_cat 1 fed p kept at tells none

-- so it is with a packet on another PID
pub cat-other : (fed : List (List ℕ)) (p : List ℕ) → (pid_of p == 1) ≡ false → cat_of (fed ++ p ∷ []) ≡ cat_of fed
unfolding cat_of
cat-other fed p other = found-other current_cat 1 fed p other

-- before a packet was fed nothing is named
pub named-none : (pid : ℕ) → named_in [] pid ≡ false
unfolding named_in
named-none pid = ap₂ (λ pat cat. has_pid (named_pids pat (λ service. pmt_of service []) cat) pid) pat-none cat-none

-- where the same tables are in force, the same PIDs are named
pub named-same : (fed : List (List ℕ)) (p : List ℕ) → SameInForce fed p → cat_of (fed ++ p ∷ []) ≡ cat_of fed → named_in (fed ++ p ∷ []) ≡ named_in fed
unfolding named_in
named-same fed p same cat = λ i pid. has_pid (named_pids (same.pat i) (λ service. same.pmts service i) (cat i)) pid

-- what the flags say by the PIDs that the tables in force name, and by no others
pub told-named :
    (one : Reading KeptCat) (fed : List (List ℕ)) (pids : List ℕ) → HasCat one fed →
    pids ≡ named_pids (pat_of fed) (λ service. pmt_of service fed) (option_map cat_held one.follower.cat) →
    (pid : ℕ) → (has_pid pids pid && not (has_pid [] pid)) ≡ named_in fed pid
unfolding named_in
told-named one fed pids h are pid =
    and_true (has_pid pids pid)
    ∙ ap (λ l. has_pid l pid) are
    ∙ ap (λ cat. has_pid (named_pids (pat_of fed) (λ service. pmt_of service fed) cat) pid) (cat-kept one fed h)
