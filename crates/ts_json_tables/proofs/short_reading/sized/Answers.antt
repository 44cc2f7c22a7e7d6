use Rattle.std.proofs.Common.{arith}
use Rattle.ts_json_tables.specs.HeldTables.{TableValue}
use Rattle.ts_json_tables.proofs.ShortLemmas.{sized_large, sized_small}
use Rattle.ts_json_tables.proofs.StepLemmas.{refusal_stops}
use Rattle.ts_json_tables.proofs.short_reading.sized.Goals as goal

pub returns-then-len-gt-MOST_PAYLOAD : goal.returns-then-len-gt-MOST_PAYLOAD
returns-then-len-gt-MOST_PAYLOAD c =
    rw (sized_large c.args.table_id c.args.payload.items (omega (arith, c.len.ensures, c.if-len-gt-MOST_PAYLOAD.true)))
    (refusal_stops TableValue c.refuse_key.result _ _ c.refuse_key.ensures)

pub returns : goal.returns
returns c = sized_small c.args.table_id c.args.payload.items (omega (arith, c.len.ensures, c.if-len-gt-MOST_PAYLOAD.false))
