-- The tables of the PIDs that are watched, one packet after another.
use Rattle.std.proofs.Common.{◌≡◌, ℕ, ◌==◌, Bool, true, false, List, [], ◌∷◌, ◌++◌, length, drop, refl, sym, ◌∙◌, ap, append-nil}
use Rattle.std.specs.Prelude.{if◌then◌else◌}
use Rattle.std.proofs.Math.Seq.{drop-append_seam}
use Rattle.ts_packet.specs.Header.{pid_of}
use Rattle.ts_demux.specs.TablesOn.{Completes, tables_on}
use Rattle.ts_demux.specs.TakenWhere.{taken_on}
use Rattle.ts_demux.proofs.TakenLemmas.{taken-own, taken-unfollowed}
use Rattle.plug_tables.specs.TablesRule.{choice_of}
use Rattle.plug_tables.specs.WatchedPackets.{Choice, is_watched, usual, tables_with, watched_tables}

-- a packet that is not watched completes no table that counts
pub no_tables : (choice : Choice) (met : List (List ℕ)) (p : List ℕ) (tables : List (List (List ℕ))) → tables ≡ [] → is_watched choice (pid_of p) (met ++ p ∷ []) ≡ false
    → tables ≡ tables_with choice met p
no_tables choice met p tables none flag =
    let before = watched_tables choice (pid_of p) met in
    none
    ∙ (sym (drop-append_seam before [])
    ∙ ap (drop (length before)) (append-nil before ∙ sym (ap (tables_on (pid_of p)) (taken-unfollowed (is_watched choice) met p flag (pid_of p)))))

-- one that is watched completes those that are reported
pub some_tables : (choice : Choice) (met : List (List ℕ)) (p : List ℕ) (tables : List (List (List ℕ))) → is_watched choice (pid_of p) (met ++ p ∷ []) ≡ true
    → Completes (pid_of p) (taken_on (is_watched choice) (pid_of p) met) p tables → tables ≡ tables_with choice met p
some_tables choice met p tables flag completes =
    let before = watched_tables choice (pid_of p) met in
    sym (drop-append_seam before tables)
    ∙ ap (drop (length before)) (sym completes ∙ sym (ap (tables_on (pid_of p)) (taken-own (is_watched choice) met p true (sym flag))))

-- the choice that a list makes, by its parts
pub choice_is : (list pids : List (ℕ × ℕ)) (follows : Bool) → pids ≡ (choice_of list).listed → follows ≡ (length list == 0)
    → (let choice : Choice = record { listed = pids; follows = follows } in choice) ≡ choice_of list
choice_is list pids follows a b =
    ap (λ (ps : List (ℕ × ℕ)). let choice : Choice = record { listed = ps; follows = follows } in choice) a
    ∙ (ap (λ (f : Bool). let choice : Choice = record { listed = (choice_of list).listed; follows = f } in choice) b
    ∙ (elim (length list == 0) as (λ f. (let choice : Choice = record { listed = (if f then usual else (let other : Choice = record { listed = list; follows = false } in other)).listed; follows = f } in choice)
    ≡ (if f then usual else (let other : Choice = record { listed = list; follows = false } in other))) [
      | true ↦ refl
      | false ↦ refl
    ]))
