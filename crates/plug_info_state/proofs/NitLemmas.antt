-- Lemmas on the NIT that is kept, packet by packet.
use Rattle.std.proofs.Common.{◌≡◌, ℕ, ◌==◌, ◌&&◌, false, List, [], ◌∷◌, ◌++◌, None, refl, sym, ◌∙◌, ap}
use Rattle.std.specs.Prelude.{is_some, not}
use Rattle.ts_packet.specs.Header.{error_indicator_of, pid_of, scrambling_of}
use Rattle.ts_packet.specs.Payload.{payload_start_of}
use Rattle.ts_demux.specs.CountedPackets.{counts}
use Rattle.ts_demux.specs.PidTables as reading
use Rattle.ts_demux.specs.TablesOn.{Completes}
use Rattle.ts_demux.specs.declared.pid_tables.PidTables.{PidTables}
use Rattle.plug_psi.specs.LastFound.{found_after}
use Rattle.plug_psi.proofs.FoundLemmas.{found-more, found-none}
use Rattle.plug_info_state.specs.NitInForce.{current_nit, nit_of}
use Rattle.plug_info_state.specs.NitStands.{HasFedNit, kept_nit}
use Rattle.plug_info_state.specs.declared.nit_in_force.NitInForce.{NitInForce}

-- no packet was fed
pub nit-new : (n : NitInForce) → reading.StandsFor n.tables 16 [] → kept_nit n ≡ None → HasFedNit n []
unfolding nit_of
nit-new n read none = record { read = read; kept = none ∙ sym (found-none current_nit 16) }

-- the tables that a packet completes
pub nit-fed : (n n_new : NitInForce) (fed : List (List ℕ)) (packet : List ℕ) (list tables : List (List (List ℕ))) → HasFedNit n fed
    → reading.StandsFor n_new.tables 16 (fed ++ packet ∷ []) → Completes 16 fed packet tables → list ≡ tables
    → kept_nit n_new ≡ found_after current_nit (kept_nit n) list → HasFedNit n_new (fed ++ packet ∷ [])
unfolding nit_of
nit-fed n n_new fed packet list tables w read completes same kept = record {
  read = read;
  kept = found-more current_nit _ _ list tables 16 fed packet same kept w.kept completes;
}

-- a packet on another PID does not count
apart : (packet : List ℕ) → (pid_of packet == 16) ≡ false → counts 16 packet ≡ false
apart packet other = ap (λ b. b && ((scrambling_of packet == 0) && (not (error_indicator_of packet) && is_some (payload_start_of packet)))) other

pub nit-other : (n : NitInForce) (fed : List (List ℕ)) (packet : List ℕ) → (pid_of packet == 16) ≡ false
    → ((tables : PidTables) (pid : ℕ) (taken : List (List ℕ)) (packet : List ℕ) → reading.StandsFor tables pid taken → counts pid packet ≡ false → reading.StandsFor tables pid (taken ++ packet ∷ []))
    → ((pid : ℕ) (taken : List (List ℕ)) (packet : List ℕ) → counts pid packet ≡ false → Completes pid taken packet [])
    → HasFedNit n fed → HasFedNit n (fed ++ packet ∷ [])
nit-other n fed packet other uncounted nothing w =
    nit-fed n n fed packet [] [] w (uncounted n.tables 16 fed packet w.read (apart packet other)) (nothing 16 fed packet (apart packet other)) refl refl
