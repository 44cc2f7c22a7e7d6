-- Lemmas on the SDTs and BATs that are kept, packet by packet.
use Rattle.std.proofs.Common.{◌≡◌, ℕ, List, [], ◌∷◌, ◌++◌, None, sym, ◌∙◌}
use Rattle.ts_demux.specs.TablesOn.{Completes}
use Rattle.plug_psi.specs.LastFound.{found_after}
use Rattle.plug_psi.proofs.FoundLemmas.{found-more, found-none}
use Rattle.named_services.specs.SdtStands.{HasFedSdt}
use Rattle.plug_info_state.specs.BatStands.{kept_bat}
use Rattle.plug_info_state.specs.BatsInForce.{bat_of, current_bat_of}
use Rattle.plug_info_state.specs.SdtStands.{HasFedTables}
use Rattle.plug_info_state.specs.declared.sdt_and_bats.SdtAndBats.{SdtAndBats}

-- no packet was fed
pub tables-new : (s : SdtAndBats) → HasFedSdt s.sdt [] → ((id : ℕ) → kept_bat s.bats id ≡ None) → HasFedTables s []
unfolding bat_of
tables-new s sdt no_bat = record { sdt = sdt; bouquets = λ id. no_bat id ∙ sym (found-none (current_bat_of id) 17) }

-- the tables that a packet completes
pub tables-fed : (s s_new : SdtAndBats) (fed : List (List ℕ)) (packet : List ℕ) (list tables : List (List (List ℕ))) → HasFedTables s fed
    → HasFedSdt s_new.sdt (fed ++ packet ∷ []) → Completes 17 fed packet tables → list ≡ tables
    → ((id : ℕ) → kept_bat s_new.bats id ≡ found_after (current_bat_of id) (kept_bat s.bats id) list)
    → HasFedTables s_new (fed ++ packet ∷ [])
unfolding bat_of
tables-fed s s_new fed packet list tables w sdt completes same bouquets = record {
  sdt = sdt;
  bouquets = λ id. found-more (current_bat_of id) _ _ list tables 17 fed packet same (bouquets id) (w.bouquets id) completes;
}
