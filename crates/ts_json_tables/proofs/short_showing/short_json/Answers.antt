use Rattle.std.proofs.Common.{length}
use Rattle.std.specs.Prelude.{nat_lt}
use Rattle.std.proofs.lemmas.Bool.{leb-true}
use Rattle.ts_json_tables.specs.ValidTables.{is_payload}
use Rattle.ts_json_tables.proofs.StepLemmas.{both}
use Rattle.ts_json_tables.proofs.short_showing.short_json.Goals as goal

pub tot_json-requires : goal.tot_json-requires
tot_json-requires c =
    let s = c.args.table.now in
    leb-true (length s.payload.items) 4093 (both (nat_lt s.table_id 255) (is_payload 4093 s.payload.items) c.requires).1

pub paged_json-requires : goal.paged_json-requires
paged_json-requires c =
    let s = c.args.table.now in
    leb-true (length s.payload.items) 4093 (both (nat_lt s.table_id 255) (is_payload 4093 s.payload.items) c.requires).1
