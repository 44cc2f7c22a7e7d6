-- Lemmas on the SDTs that are kept, packet by packet.
use Rattle.std.proofs.Common.{◌≡◌, ℕ, ◌==◌, ◌&&◌, false, List, [], ◌∷◌, ◌++◌, Option, None, Some, refl, sym, ◌∙◌, ap, ap₂, append-nil}
use Rattle.std.specs.Prelude.{is_some, not}
use Rattle.std.specs.Option.{option_or}
use Rattle.ts_packet.specs.Header.{error_indicator_of, pid_of, scrambling_of}
use Rattle.ts_packet.specs.Payload.{payload_start_of}
use Rattle.ts_demux.specs.CountedPackets.{counts}
use Rattle.ts_demux.specs.PidTables as reading
use Rattle.ts_demux.specs.TablesOn.{Completes, tables_on}
use Rattle.ts_table_rows.specs.TableValues.{TableHolding}
use Rattle.ts_demux.specs.declared.pid_tables.PidTables.{PidTables}
use Rattle.plug_psi.specs.InForce.{current_pat, pat_of}
use Rattle.plug_psi.specs.LastFound.{found_after, last_found}
use Rattle.plug_psi.proofs.FoundLemmas.{found-more, found-none}
use Rattle.service_items.specs.StreamTables.{stream_of}
use Rattle.named_services.specs.SdtInForce.{current_sdt, current_sdt_of, last_sdt, sdt_for, sdt_of, sdt_with}
use Rattle.named_services.specs.SdtStands.{HasFedSdt, kept_at, kept_with, last_kept}
use Rattle.named_services.specs.declared.sdt_in_force.SdtInForce.{SdtInForce}

-- no packet was fed
pub sdt-new : (s : SdtInForce) → reading.StandsFor s.tables 17 [] → ((id : ℕ) → kept_with s.kept id ≡ None) → last_kept s.kept ≡ None → HasFedSdt s []
unfolding last_sdt sdt_with
sdt-new s read none none_last = record {
  read = read;
  each = λ id. none id ∙ sym (found-none (current_sdt_of id) 17);
  last = none_last ∙ sym (found-none current_sdt 17);
}

-- the tables that a packet completes
pub sdt-fed : (s s_new : SdtInForce) (fed : List (List ℕ)) (packet : List ℕ) (list tables : List (List (List ℕ))) → HasFedSdt s fed
    → reading.StandsFor s_new.tables 17 (fed ++ packet ∷ []) → Completes 17 fed packet tables → list ≡ tables
    → ((id : ℕ) → kept_with s_new.kept id ≡ found_after (current_sdt_of id) (kept_with s.kept id) list)
    → last_kept s_new.kept ≡ found_after current_sdt (last_kept s.kept) list
    → HasFedSdt s_new (fed ++ packet ∷ [])
unfolding last_sdt sdt_with
sdt-fed s s_new fed packet list tables w read completes same each last = record {
  read = read;
  each = λ id. found-more (current_sdt_of id) _ _ list tables 17 fed packet same (each id) (w.each id) completes;
  last = found-more current_sdt _ _ list tables 17 fed packet same last w.last completes;
}

-- a packet on another PID does not count
pub apart : (packet : List ℕ) → (pid_of packet == 17) ≡ false → counts 17 packet ≡ false
apart packet other = ap (λ b. b && ((scrambling_of packet == 0) && (not (error_indicator_of packet) && is_some (payload_start_of packet)))) other

pub sdt-other : (s : SdtInForce) (fed : List (List ℕ)) (packet : List ℕ) → (pid_of packet == 17) ≡ false
    → ((tables : PidTables) (pid : ℕ) (taken : List (List ℕ)) (packet : List ℕ) → reading.StandsFor tables pid taken → counts pid packet ≡ false → reading.StandsFor tables pid (taken ++ packet ∷ []))
    → ((pid : ℕ) (taken : List (List ℕ)) (packet : List ℕ) → counts pid packet ≡ false → Completes pid taken packet [])
    → HasFedSdt s fed → HasFedSdt s (fed ++ packet ∷ [])
sdt-other s fed packet other uncounted nothing w =
    sdt-fed s s fed packet [] [] w (uncounted s.tables 17 fed packet w.read (apart packet other)) (nothing 17 fed packet (apart packet other)) refl (λ id. refl) refl

-- the one that is chosen of those that are kept
pub chosen-is : (s : SdtInForce) (fed : List (List ℕ)) (id : Option ℕ) → HasFedSdt s fed → option_or (kept_at s.kept id) (last_kept s.kept) ≡ sdt_for id fed
chosen-is s fed None w = w.last
chosen-is s fed (Some id) w = ap₂ option_or (w.each id) w.last

-- the one in force, by the PAT in force
pub in-force : (fed : List (List ℕ)) (id : Option ℕ) → id ≡ stream_of (pat_of fed) → sdt_for id fed ≡ sdt_of fed
unfolding sdt_of
in-force fed id is = ap (λ (n : Option ℕ). sdt_for n fed) is

-- before any packet none is in force
pub sdt-none : sdt_of [] ≡ None
unfolding sdt_of last_sdt pat_of
sdt-none = ap (λ (pat : Option TableHolding). sdt_for (stream_of pat) []) (found-none current_pat 0) ∙ found-none current_sdt 17

same-for : (id : Option ℕ) (fed more : List (List ℕ)) → tables_on 17 more ≡ tables_on 17 fed → sdt_for id more ≡ sdt_for id fed
unfolding last_sdt sdt_with
same-for None fed more e = ap (last_found current_sdt) e
same-for (Some id) fed more e = ap (λ t. option_or (last_found (current_sdt_of id) t) (last_found current_sdt t)) e

-- with a packet that completes no table on PID 17, and the same PAT, the same SDT is in force
pub sdt-stays : (fed : List (List ℕ)) (packet : List ℕ) (tables : List (List (List ℕ))) → Completes 17 fed packet tables → tables ≡ []
    → pat_of (fed ++ packet ∷ []) ≡ pat_of fed → sdt_of (fed ++ packet ∷ []) ≡ sdt_of fed
unfolding sdt_of
sdt-stays fed packet tables completes none same =
    ap (λ (pat : Option TableHolding). sdt_for (stream_of pat) (fed ++ packet ∷ [])) same
    ∙ same-for (stream_of (pat_of fed)) fed (fed ++ packet ∷ []) (completes ∙ ap (λ t. tables_on 17 fed ++ t) none ∙ append-nil (tables_on 17 fed))
