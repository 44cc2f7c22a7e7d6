use Rattle.ts_json_tables.proofs.ShortLemmas.{front_whole}
use Rattle.ts_json_tables.proofs.time_offset.fronts_are_whole.Goals as goal

pub returns : goal.returns
returns c = λ values row is.
    front_whole c.length_of_spelled_rows.ensures c.length_of_bits.ensures.number c.length_of_bits.ensures.bytes values row is
