use Rattle.ts_json_tables.proofs.ReadBytes.{read_valid}
use Rattle.ts_json_tables.proofs.table_laws.read_tables_are_valid.Goals as goal

pub returns : goal.returns
returns c = λ value t is.
    read_valid (record { wide = c.length_of_bits.ensures.number; long = c.length_of_bits.ensures.bytes; read = c.read_bytes_are_spelled.ensures }) value t is
