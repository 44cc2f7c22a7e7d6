use Rattle.ts_json_tables.proofs.OfBytesLemmas.{run_of_bytes}
use Rattle.ts_json_tables.proofs.table_laws.run_tables_are_of_bytes.Goals as goal

pub returns : goal.returns
returns c = λ run valid. run_of_bytes (record { bytes = c.read_bytes_are_spelled.ensures; whole = c.loops_are_whole_or_cut.ensures.whole }) run valid
