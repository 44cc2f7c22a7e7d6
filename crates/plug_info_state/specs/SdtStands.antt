-- When the SDTs and BATs that are kept stand for the packets that were fed. This project's own rule.
use Rattle.std.specs.Prelude.{◌≡◌, ℕ, List}
use Rattle.named_services.specs.SdtStands.{HasFedSdt}
use Rattle.plug_info_state.specs.BatStands.{kept_bat}
use Rattle.plug_info_state.specs.BatsInForce.{bat_of}
use Rattle.plug_info_state.specs.declared.sdt_and_bats.SdtAndBats.{SdtAndBats}

-- the SDTs are followed, and of each bouquet the BAT in force is kept
pub record HasFedTables (s : SdtAndBats) (fed : List (List ℕ)) : Type 0 where
  pub sdt : HasFedSdt s.sdt fed
  pub bouquets : (id : ℕ) → kept_bat s.bats id ≡ bat_of id fed
