-- Actions, by PIDs and by tables in force.
use Rattle.std.proofs.Common.{◌≡◌, ℕ, ◌==◌, ◌&&◌, ◌||◌, not, Bool, true, false, List, [], ◌∷◌, ◌++◌, Option, None, Some, refl, sym, ◌∙◌, ap, arith, true≢false}
use Rattle.std.specs.Prelude.{if◌then◌else◌, nat_lt}
use Rattle.std.specs.List.{cons_option, list_any}
use Rattle.std.specs.Map.{lookup}
use Rattle.std.proofs.lemmas.Bool.Decides.{nat_tests}
use Rattle.ts_packet.specs.declared.numbers.TheConstants.{NULL_PID}
use Rattle.ts_packet.specs.Header.{pid_of}
use Rattle.ts_table_rows.specs.TableValues.{TableHolding}
use Rattle.plug_psi.specs.InForce.{follows, is_named, may_have_tables, names, pat_of, pid_for, pmt_of, services_in}
use Rattle.plug_psi.specs.ServicePids.{has_pid}
use Rattle.plug_psi.proofs.ForceLemmas.{pat-other}
use Rattle.named_services.specs.NamedServices.{services_after}
use Rattle.named_services.specs.declared.service_word.ServiceWord.{ServiceWord}
use Rattle.plug_service.specs.Actions.{action_after, action_of, edits_eits, edits_nits, is_edit, kept_action, may_be_read, own_pids, pmt_pids, removed_action}
use Rattle.plug_service.specs.declared.way.Way.{Way}
use Rattle.plug_service.specs.declared.way.Way.TheVariants.{Keep, Remove}
use Rattle.plug_service.specs.declared.action.Action.{Action}
use Rattle.plug_service.specs.declared.action.Action.TheVariants.{EditPat, EditSdt, EditNit, EditEit, EditPmt, Pass, Drop}

-- the actions of packets that carry PATs, and of those that carry SDTs
abbrev pub edits_pat : Action → Bool
edits_pat EditPat = true
edits_pat EditSdt = false
edits_pat EditNit = false
edits_pat EditEit = false
edits_pat EditPmt = false
edits_pat Pass = false
edits_pat Drop = false

abbrev pub edits_sdt : Action → Bool
edits_sdt EditPat = false
edits_sdt EditSdt = true
edits_sdt EditNit = false
edits_sdt EditEit = false
edits_sdt EditPmt = false
edits_sdt Pass = false
edits_sdt Drop = false

-- the action of those that carry EITs
abbrev pub edits_eit : Action → Bool
edits_eit EditPat = false
edits_eit EditSdt = false
edits_eit EditNit = false
edits_eit EditEit = true
edits_eit EditPmt = false
edits_eit Pass = false
edits_eit Drop = false

-- the action of those that carry NITs
abbrev pub edits_nit : Action → Bool
edits_nit EditPat = false
edits_nit EditSdt = false
edits_nit EditNit = true
edits_nit EditEit = false
edits_nit EditPmt = false
edits_nit Pass = false
edits_nit Drop = false

-- an action of packets on another PID
abbrev IsOther : Action → Type 0
IsOther EditPat = ⊥
IsOther EditSdt = ⊥
IsOther EditNit = Unit {0}
IsOther EditEit = Unit {0}
IsOther EditPmt = Unit {0}
IsOther Pass = Unit {0}
IsOther Drop = Unit {0}

kept_other : (a b : Bool) (pid : ℕ) → IsOther (kept_action a b pid)
kept_other true b pid = null (pid == NULL_PID)
  where
    null : (d : Bool) → IsOther (if d then Drop else EditPmt)
    null true = tt
    null false = tt
kept_other false true pid = tt
kept_other false false pid = tt

removed_other : (a b c : Bool) (pid : ℕ) → IsOther (removed_action a b c pid)
removed_other true true c pid = tt
removed_other true false c pid = tt
removed_other false b c pid = chosen _
  where
    chosen : (d : Bool) → IsOther (if d then Drop else Pass)
    chosen true = tt
    chosen false = tt

-- a test of actions that holds of none that packets have on a PID of a service
record None_of (is : Action → Bool) : Type 0 where
  pmt : is EditPmt ≡ false
  pass : is Pass ≡ false
  drop : is Drop ≡ false

chosen_none : (is : Action → Bool) (x y : Action) → is x ≡ false → is y ≡ false → (d : Bool) → is (if d then x else y) ≡ false
chosen_none is x y e f true = e
chosen_none is x y e f false = f

kept_none : (is : Action → Bool) → None_of is → (a b : Bool) (pid : ℕ) → is (kept_action a b pid) ≡ false
kept_none is none true b pid = chosen_none is Drop EditPmt none.drop none.pmt (pid == NULL_PID)
kept_none is none false b pid = chosen_none is Pass Drop none.pass none.drop b

removed_none : (is : Action → Bool) → None_of is → (a b c : Bool) (pid : ℕ) → is (removed_action a b c pid) ≡ false
removed_none is none true b c pid = chosen_none is Pass Drop none.pass none.drop b
removed_none is none false b c pid = chosen_none is Drop Pass none.drop none.pass _

no_eit : None_of edits_eit
no_eit = record { pmt = refl; pass = refl; drop = refl }

no_nit : None_of edits_nit
no_nit = record { pmt = refl; pass = refl; drop = refl }

-- the tables that are kept, by three tests
abbrev first_kept : (a b c : Bool) → Action → Action
first_kept a b c other = if a then Pass else (if b then Pass else (if c then EditEit else other))

first_other : (a b c : Bool) (other : Action) → IsOther other → IsOther (first_kept a b c other)
first_other true b c other o = tt
first_other false true c other o = tt
first_other false false true other o = tt
first_other false false false other o = o

first_eit : (a b c : Bool) (other : Action) → edits_eit other ≡ false → (c ≡ true → (a ≡ false) × (b ≡ false)) → edits_eit (first_kept a b c other) ≡ c
first_eit true b true other o apart = absurd (true≢false (apart refl).0)
first_eit true b false other o apart = refl
first_eit false true true other o apart = absurd (true≢false (apart refl).1)
first_eit false true false other o apart = refl
first_eit false false true other o apart = refl
first_eit false false false other o apart = o

-- no NIT is edited if services are kept
first_nit : (a b c : Bool) (other : Action) → edits_nit other ≡ false → edits_nit (first_kept a b c other) ≡ false
first_nit true b c other o = refl
first_nit false true c other o = refl
first_nit false false true other o = refl
first_nit false false false other o = o

-- the tables that are edited if services are removed, by two tests
abbrev first_removed : (a b : Bool) → Action → Action
first_removed a b other = if a then EditNit else (if b then EditEit else other)

gone_other : (a b : Bool) (other : Action) → IsOther other → IsOther (first_removed a b other)
gone_other true b other o = tt
gone_other false true other o = tt
gone_other false false other o = o

gone_eit : (a b : Bool) (other : Action) → edits_eit other ≡ false → (b ≡ true → a ≡ false) → edits_eit (first_removed a b other) ≡ b
gone_eit true true other o apart = absurd (true≢false (apart refl))
gone_eit true false other o apart = refl
gone_eit false true other o apart = refl
gone_eit false false other o apart = o

gone_nit : (a b : Bool) (other : Action) → edits_nit other ≡ false → edits_nit (first_removed a b other) ≡ a
gone_nit true b other o = refl
gone_nit false true other o = refl
gone_nit false false other o = o

-- the fixed PIDs in front of them
front : (is : Action → Bool) → is EditPat ≡ false → is EditSdt ≡ false → (x y : Bool) (other : Action) (c : Bool) → is other ≡ c →
    (c ≡ true → (x ≡ false) × (y ≡ false)) → is (if x then EditPat else (if y then EditSdt else other)) ≡ c
front is pat sdt true y other true o apart = absurd (true≢false (apart refl).0)
front is pat sdt true y other false o apart = pat
front is pat sdt false true other true o apart = absurd (true≢false (apart refl).1)
front is pat sdt false true other false o apart = sdt
front is pat sdt false false other c o apart = o

-- what the first two tests are, where the action is known
chosen_first : (x y : Bool) (other action : Action) → IsOther other → (x ≡ true → y ≡ false) → action ≡ (if x then EditPat else (if y then EditSdt else other)) → (x ≡ edits_pat action) × (y ≡ edits_sdt action)
chosen_first true y other action o apart e = (sym (ap edits_pat e), apart refl ∙ sym (ap edits_sdt e))
chosen_first false true other action o apart e = (sym (ap edits_pat e), sym (ap edits_sdt e))
chosen_first false false other action o apart e = (sym (ap edits_pat e ∙ none_pat other o), sym (ap edits_sdt e ∙ none_sdt other o))
  where
    none_pat : (f : Action) → IsOther f → edits_pat f ≡ false
    none_pat EditPat o = absurd o
    none_pat EditSdt o = refl
    none_pat EditNit o = refl
    none_pat EditEit o = refl
    none_pat EditPmt o = refl
    none_pat Pass o = refl
    none_pat Drop o = refl

    none_sdt : (f : Action) → IsOther f → edits_sdt f ≡ false
    none_sdt EditPat o = refl
    none_sdt EditSdt o = absurd o
    none_sdt EditNit o = refl
    none_sdt EditEit o = refl
    none_sdt EditPmt o = refl
    none_sdt Pass o = refl
    none_sdt Drop o = refl

apart : (pid : ℕ) → (pid == 0) ≡ true → (pid == 17) ≡ false
apart pid e = grind (arith, nat_tests, e)

-- packets are edited as PATs exactly on PID 0, and as SDTs exactly on PID 17
pub fixed_pids :
    (way : Way) (words : List ServiceWord) (packets : List (List ℕ)) (pid : ℕ) (action : Action) → action ≡ action_after way words packets pid →
    ((pid == 0) ≡ edits_pat action) × ((pid == 17) ≡ edits_sdt action)
unfolding action_after
fixed_pids (Keep kept) words packets pid action e =
    chosen_first (pid == 0) (pid == 17) _ action (first_other (kept.nit && (pid == 16)) (kept.time && (pid == 20)) (kept.eit && (pid == 18)) _ (kept_other _ _ pid)) (apart pid) e
fixed_pids (Remove everywhere) words packets pid action e =
    chosen_first (pid == 0) (pid == 17) _ action (gone_other (everywhere && (pid == 16)) (everywhere && (pid == 18)) _ (removed_other _ _ _ pid)) (apart pid) e

right_of : (a b : Bool) → (a && b) ≡ true → b ≡ true
right_of true b e = e
right_of false b e = cc

none_of : (a b : Bool) → b ≡ false → (a && b) ≡ false
none_of true b e = e
none_of false b e = refl

at-eighteen : (pid : ℕ) → (pid == 18) ≡ true → ((pid == 0) ≡ false) × ((pid == 17) ≡ false) × ((pid == 16) ≡ false) × ((pid == 20) ≡ false)
at-eighteen pid e = (grind (arith, nat_tests, e), grind (arith, nat_tests, e), grind (arith, nat_tests, e), grind (arith, nat_tests, e))

at-sixteen : (pid : ℕ) → (pid == 16) ≡ true → ((pid == 0) ≡ false) × ((pid == 17) ≡ false)
at-sixteen pid e = (grind (arith, nat_tests, e), grind (arith, nat_tests, e))

-- and as EITs on PID 18, if EIT sections are edited
pub eit_pid :
    (way : Way) (words : List ServiceWord) (packets : List (List ℕ)) (pid : ℕ) (action : Action) → action ≡ action_after way words packets pid →
    (edits_eits way && (pid == 18)) ≡ edits_eit action
unfolding action_after
eit_pid (Keep kept) words packets pid action e =
    let a = kept.nit && (pid == 16) in
    let b = kept.time && (pid == 20) in
    let c = kept.eit && (pid == 18) in
    sym (ap edits_eit e
    ∙ front edits_eit refl refl (pid == 0) (pid == 17) _ c
    (first_eit a b c _ (kept_none edits_eit no_eit _ _ pid)
    (λ is. let at = at-eighteen pid (right_of kept.eit (pid == 18) is) in (none_of kept.nit (pid == 16) at.2, none_of kept.time (pid == 20) at.3)))
    (λ is. let at = at-eighteen pid (right_of kept.eit (pid == 18) is) in (at.0, at.1)))
eit_pid (Remove everywhere) words packets pid action e =
    let a = everywhere && (pid == 16) in
    let b = everywhere && (pid == 18) in
    sym (ap edits_eit e
    ∙ front edits_eit refl refl (pid == 0) (pid == 17) _ b
    (gone_eit a b _ (removed_none edits_eit no_eit _ _ _ pid) (λ is. none_of everywhere (pid == 16) (at-eighteen pid (right_of everywhere (pid == 18) is)).2))
    (λ is. let at = at-eighteen pid (right_of everywhere (pid == 18) is) in (at.0, at.1)))

-- and as NITs on PID 16, if NITs are edited
pub nit_pid :
    (way : Way) (words : List ServiceWord) (packets : List (List ℕ)) (pid : ℕ) (action : Action) → action ≡ action_after way words packets pid →
    (edits_nits way && (pid == 16)) ≡ edits_nit action
unfolding action_after
nit_pid (Keep kept) words packets pid action e =
    sym (ap edits_nit e
    ∙ front edits_nit refl refl (pid == 0) (pid == 17) _ false
    (first_nit (kept.nit && (pid == 16)) (kept.time && (pid == 20)) (kept.eit && (pid == 18)) _ (kept_none edits_nit no_nit _ _ pid))
    (λ is. absurd (true≢false (sym is))))
nit_pid (Remove everywhere) words packets pid action e =
    sym (ap edits_nit e
    ∙ front edits_nit refl refl (pid == 0) (pid == 17) _ (everywhere && (pid == 16))
    (gone_nit (everywhere && (pid == 16)) (everywhere && (pid == 18)) _ (removed_none edits_nit no_nit _ _ _ pid))
    (λ is. at-sixteen pid (right_of everywhere (pid == 16) is)))

-- the action of a PID by the tables in force after packets
pub action-after : (way : Way) (words : List ServiceWord) (packets : List (List ℕ)) (pid : ℕ) →
    action_of way (services_after words packets) (pat_of packets) (λ other. pmt_of other packets) pid ≡ action_after way words packets pid
unfolding action_after
action-after way words packets pid = refl

-- ---- packets on PIDs whose tables are neither read nor edited

or-right : (a b : Bool) → b ≡ true → (a || b) ≡ true
or-right true b e = refl
or-right false b e = e

pub neither : (a b : Bool) → (a || b) ≡ false → (a ≡ false) × (b ≡ false)
neither true b e = cc
neither false b e = (refl, e)

-- whether a PID is given, and it is this one
abbrev is_at : Option ℕ → ℕ → Bool
is_at None pid = false
is_at (Some told) pid = told == pid

-- the PID of the first entry of a service is that of an entry
named-at : (entries : List (ℕ × ℕ)) (service pid : ℕ) → is_at (lookup (λ id. id == service) entries) pid ≡ true → list_any (λ entry. entry.1 == pid) entries ≡ true
named-at [] service pid e = e
named-at (entry ∷ entries) service pid e = by (entry.0 == service) (λ f. named-at entries service pid f) e
  where
    by : (b : Bool) → (is_at (lookup (λ id. id == service) entries) pid ≡ true → list_any (λ entry. entry.1 == pid) entries ≡ true)
        → is_at (if b then Some entry.1 else lookup (λ id. id == service) entries) pid ≡ true → ((entry.1 == pid) || list_any (λ entry. entry.1 == pid) entries) ≡ true
    by true more e = ap (λ t. t || list_any (λ entry. entry.1 == pid) entries) e
    by false more e = or-right (entry.1 == pid) (list_any (λ entry. entry.1 == pid) entries) (more e)

-- a PID among those that are given is the first of them, or one of the others
among : (told : Option ℕ) (pids : List ℕ) (pid : ℕ) → has_pid (cons_option told pids) pid ≡ (is_at told pid || has_pid pids pid)
among None pids pid = refl
among (Some at) pids pid = refl

either : (a b c : Bool) → (a ≡ true → c ≡ true) → (b ≡ true → c ≡ true) → (a || b) ≡ true → c ≡ true
either true b c f g e = f refl
either false b c f g e = g e

-- the PIDs of the services' first entries are those of entries
pub pmts-named : (services : List ℕ) (pat : Option TableHolding) (pid : ℕ) → has_pid (pmt_pids services pat) pid ≡ true → names pat pid ≡ true
pmts-named [] pat pid e = cc
pmts-named (service ∷ services) pat pid e =
    either (is_at (pid_for pat service) pid) (has_pid (pmt_pids services pat) pid) (names pat pid)
    (named-at (services_in pat) service pid) (pmts-named services pat pid)
    (sym (among (pid_for pat service) (pmt_pids services pat) pid) ∙ e)

-- where it is not followed, it is that of null packets
null-alone : (a b : Bool) → a ≡ true → (a && not b) ≡ false → b ≡ true
null-alone true true e f = refl
null-alone true false e f = sym f
null-alone false b e f = cc

unfollowed : (pat : Option TableHolding) (services : List ℕ) (pid : ℕ) → is_named pat pid ≡ false → has_pid (pmt_pids services pat) pid ≡ true → (pid == NULL_PID) ≡ true
unfollowed pat services pid none e = null-alone (names pat pid) (pid == NULL_PID) (pmts-named services pat pid e) none

kept-plain : (a b : Bool) (pid : ℕ) → (a ≡ true → (pid == NULL_PID) ≡ true) → is_edit (kept_action a b pid) ≡ false
kept-plain true b pid null = ap (λ t. is_edit (if t then Drop else EditPmt)) (null refl)
kept-plain false true pid null = refl
kept-plain false false pid null = refl

removed-plain : (a b c : Bool) (pid : ℕ) → is_edit (removed_action a b c pid) ≡ false
removed-plain true true c pid = refl
removed-plain true false c pid = refl
removed-plain false b c pid = chosen (nat_lt 31 pid && c)
  where
    chosen : (d : Bool) → is_edit (if d then Drop else Pass) ≡ false
    chosen true = refl
    chosen false = refl

first-plain : (x y : Bool) (other : Action) → x ≡ false → y ≡ false → is_edit (if x then EditPat else (if y then EditSdt else other)) ≡ is_edit other
first-plain true y other e f = cc
first-plain false true other e f = cc
first-plain false false other e f = refl

first-kept-plain : (a b c : Bool) (other : Action) → c ≡ false → is_edit other ≡ false → is_edit (first_kept a b c other) ≡ false
first-kept-plain true b c other e o = refl
first-kept-plain false true c other e o = refl
first-kept-plain false false true other e o = cc
first-kept-plain false false false other e o = o

first-removed-plain : (a b : Bool) (other : Action) → a ≡ false → b ≡ false → is_edit other ≡ false → is_edit (first_removed a b other) ≡ false
first-removed-plain true b other e f o = cc
first-removed-plain false true other e f o = cc
first-removed-plain false false other e f o = o

plain-of : (way : Way) (services : List ℕ) (pat : Option TableHolding) (pmts : ℕ → Option TableHolding) (pid : ℕ) →
    (pid == 17) ≡ false → (pid == 0) ≡ false → (edits_nits way && (pid == 16)) ≡ false → (edits_eits way && (pid == 18)) ≡ false → is_named pat pid ≡ false →
    is_edit (action_of way services pat pmts pid) ≡ false
plain-of (Keep kept) services pat pmts pid e f n g none =
    first-plain (pid == 0) (pid == 17) _ f e
    ∙ first-kept-plain (kept.nit && (pid == 16)) (kept.time && (pid == 20)) (kept.eit && (pid == 18)) _ g
    (kept-plain (has_pid (pmt_pids services pat) pid) (has_pid (own_pids services pmts) pid) pid (unfollowed pat services pid none))
plain-of (Remove everywhere) services pat pmts pid e f n g none =
    first-plain (pid == 0) (pid == 17) _ f e
    ∙ first-removed-plain (everywhere && (pid == 16)) (everywhere && (pid == 18)) _ n g (removed-plain _ _ _ pid)

-- a packet on a PID whose tables are neither read nor edited is not edited
pub unread-plain :
    (way : Way) (words : List ServiceWord) (met : List (List ℕ)) (p : List ℕ) (action : Action) →
    action ≡ action_after way words (met ++ p ∷ []) (pid_of p) → may_be_read way (pid_of p) met ≡ false → is_edit action ≡ false
unread-plain way words met p action e unread =
    let first = neither (pid_of p == 17) _ unread in
    let nits = neither (edits_nits way && (pid_of p == 16)) _ first.1 in
    let eits = neither (edits_eits way && (pid_of p == 18)) (may_have_tables (pid_of p) met) nits.1 in
    let second = neither (pid_of p == 0) (follows (pid_of p) met) eits.1 in
    ap is_edit (e ∙ sym (action-after way words (met ++ p ∷ []) (pid_of p)))
    ∙ plain-of way (services_after words (met ++ p ∷ [])) (pat_of (met ++ p ∷ [])) (λ other. pmt_of other (met ++ p ∷ [])) (pid_of p) first.0 second.0 nits.0 eits.0
    (ap (λ pat. is_named pat (pid_of p)) (pat-other met p second.0) ∙ second.1)
