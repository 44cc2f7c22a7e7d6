-- When the SDTs that are kept stand for the packets that were fed. This project's own rule.
use Rattle.std.specs.Prelude.{◌≡◌, ℕ, List, Option, None, Some, nat_eq, option_map}
use Rattle.indexmap.specs.IndexMap.{get}
use Rattle.ts_demux.specs.PidTables as reading
use Rattle.ts_table_rows.specs.TableValues.{TableHolding}
use Rattle.ts_si.specs.SiTables.{sdt_held}
use Rattle.named_services.specs.SdtInForce.{last_sdt, sdt_with}
use Rattle.named_services.specs.declared.kept_sdts.KeptSdts.{KeptSdts}
use Rattle.named_services.specs.declared.sdt_in_force.SdtInForce.{SdtInForce}

-- the SDT that is kept of a transport_stream_id
abbrev pub kept_with : KeptSdts → ℕ → Option TableHolding
kept_with kept id = option_map sdt_held (get nat_eq kept.sdts id)

-- the same, if there is such a number
abbrev pub kept_at : KeptSdts → Option ℕ → Option TableHolding
kept_at kept None = None
kept_at kept (Some id) = kept_with kept id

-- the last one that was kept
abbrev pub last_kept : KeptSdts → Option TableHolding
last_kept kept = kept_at kept kept.last

-- the tables on PID 17 were read from all packets fed; of each transport_stream_id the last SDT is kept, and which is
-- the last of all
pub record HasFedSdt (s : SdtInForce) (fed : List (List ℕ)) : Type 0 where
  pub read : reading.StandsFor s.tables 17 fed
  pub each : (id : ℕ) → kept_with s.kept id ≡ sdt_with id fed
  pub last : last_kept s.kept ≡ last_sdt fed
