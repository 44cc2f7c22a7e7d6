use Rattle.std.proofs.Common.{arith}
use Rattle.ts_json_tables.proofs.ShortLemmas.{with_crc_length}
use Rattle.ts_json_tables.proofs.time_offset.with_crc.Goals as goal

pub returns-then-len-gt-MOST_FRONT-clause-large : goal.returns-then-len-gt-MOST_FRONT-clause-large
returns-then-len-gt-MOST_FRONT-clause-large c =
    omega (arith, with_crc_length c.args.front.items, c.len.ensures, c.if-len-gt-MOST_FRONT.true)
