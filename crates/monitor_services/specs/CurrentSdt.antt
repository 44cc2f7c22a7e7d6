-- When the last SDT that is kept stands for the packets that were fed. Which SDT that is, is this project's own rule: the last
-- complete one of the actual transport stream that is current and reads, whatever its transport_stream_id.
use Rattle.std.specs.Prelude.{◌≡◌, ℕ, List, option_map}
use Rattle.ts_demux.specs.PidTables.{StandsFor}
use Rattle.ts_si.specs.SiTables.{sdt_held}
pub use Rattle.named_services.specs.SdtInForce.{current_sdt, items_in, of_actual}
unfoldable pub use Rattle.named_services.specs.SdtInForce.{last_sdt}
use Rattle.monitor_services.specs.declared.current_sdt.CurrentSdt.{CurrentSdt}

-- the tables on PID 17 were read from all packets fed, and the last SDT is kept
pub record HasFedSdt (kept : CurrentSdt) (fed : List (List ℕ)) : Type 0 where
  pub read : StandsFor kept.tables 17 fed
  pub last : option_map sdt_held kept.sdt ≡ last_sdt fed
