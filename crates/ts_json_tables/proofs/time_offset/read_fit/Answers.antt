use Rattle.ts_fields.specs.Bits.{bits_of}
use Rattle.ts_json_tables.specs.TimeOffsets.{offset_held}
use Rattle.ts_json_tables.proofs.ShortLemmas.{offset_fits}
use Rattle.ts_json_tables.proofs.time_offset.read_fit.Goals as goal

pub returns-clause-fit : goal.returns-clause-fit
returns-clause-fit c =
    offset_fits c.length_of_read_rows.ensures (bits_of c.args.payload.now) (offset_held c.in_ok-offset.offset) c.in_ok-offset.ensures
