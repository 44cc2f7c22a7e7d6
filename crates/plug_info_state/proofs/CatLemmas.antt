-- Lemmas on the CAT in force, packet by packet.
use Rattle.std.proofs.Common.{◌≡◌, ℕ, ◌==◌, ◌&&◌, false, List, [], ◌∷◌, ◌++◌, Option, None, sym, ◌∙◌, ap}
use Rattle.std.specs.Prelude.{fold, is_some, not, option_map}
use Rattle.std.proofs.lemmas.List.Sums.{fold-append}
use Rattle.ts_packet.specs.Header.{error_indicator_of, pid_of, scrambling_of}
use Rattle.ts_packet.specs.Payload.{payload_start_of}
use Rattle.ts_demux.specs.CountedPackets.{counts}
use Rattle.ts_demux.specs.PidTables as reading
use Rattle.ts_demux.specs.TablesOn.{Completes, tables_on}
use Rattle.ts_demux.specs.declared.pid_tables.PidTables.{PidTables}
use Rattle.ts_table_rows.specs.TableValues.{TableHolding}
use Rattle.ts_psi.specs.CatTables.{cat_held}
use Rattle.plug_psi.specs.LastFound.{last_found, newer}
use Rattle.plug_psi.proofs.FoundLemmas.{found-none}
use Rattle.plug_psi.specs.CatInForce.{cat_of, current_cat}
use Rattle.plug_info_state.specs.CatStands.{HasFedCat}
use Rattle.plug_info_state.specs.declared.cat_in_force.CatInForce.{CatInForce}

-- no packet was fed
cat-none : cat_of [] ≡ None
unfolding cat_of
cat-none = found-none current_cat 1

pub cat-new : (s : CatInForce) → reading.StandsFor s.tables 1 [] → s.cat ≡ None → HasFedCat s []
cat-new s read none = record { read = read; kept = ap (option_map cat_held) none ∙ sym cat-none }

-- the CAT with the tables that a packet completes
cat-more : (fed : List (List ℕ)) (packet : List ℕ) (tables : List (List (List ℕ))) → Completes 1 fed packet tables
    → cat_of (fed ++ packet ∷ []) ≡ fold (λ (old : Option TableHolding) (table : List (List ℕ)). newer old (current_cat table)) (cat_of fed) tables
unfolding cat_of last_found
cat-more fed packet tables completes =
    ap (last_found current_cat) completes ∙ fold-append (λ (old : Option TableHolding) (table : List (List ℕ)). newer old (current_cat table)) None (tables_on 1 fed) tables

-- a packet on another PID does not count
apart : (packet : List ℕ) → (pid_of packet == 1) ≡ false → counts 1 packet ≡ false
apart packet other = ap (λ b. b && ((scrambling_of packet == 0) && (not (error_indicator_of packet) && is_some (payload_start_of packet)))) other

pub cat-other : (s : CatInForce) (fed : List (List ℕ)) (packet : List ℕ) → (pid_of packet == 1) ≡ false
    → ((tables : PidTables) (pid : ℕ) (taken : List (List ℕ)) (packet : List ℕ) → reading.StandsFor tables pid taken → counts pid packet ≡ false → reading.StandsFor tables pid (taken ++ packet ∷ []))
    → ((pid : ℕ) (taken : List (List ℕ)) (packet : List ℕ) → counts pid packet ≡ false → Completes pid taken packet [])
    → HasFedCat s fed → HasFedCat s (fed ++ packet ∷ [])
cat-other s fed packet other uncounted nothing w = record {
  read = uncounted s.tables 1 fed packet w.read (apart packet other);
  kept = w.kept ∙ sym (cat-more fed packet [] (nothing 1 fed packet (apart packet other)));
}

pub cat-fed : (s s_new : CatInForce) (fed : List (List ℕ)) (packet : List ℕ) (tables : List (List (List ℕ))) → HasFedCat s fed
    → reading.StandsFor s_new.tables 1 (fed ++ packet ∷ []) → Completes 1 fed packet tables
    → option_map cat_held s_new.cat ≡ fold (λ (old : Option TableHolding) (table : List (List ℕ)). newer old (current_cat table)) (option_map cat_held s.cat) tables
    → HasFedCat s_new (fed ++ packet ∷ [])
cat-fed s s_new fed packet tables w read completes kept = record {
  read = read;
  kept = kept
      ∙ (ap (λ (o : Option TableHolding). fold (λ (old : Option TableHolding) (table : List (List ℕ)). newer old (current_cat table)) o tables) w.kept
      ∙ sym (cat-more fed packet tables completes));
}
