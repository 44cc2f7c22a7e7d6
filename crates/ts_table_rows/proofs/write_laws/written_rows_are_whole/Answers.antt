use Rattle.ts_table_rows.proofs.SizeLemmas.{SpelledBits, item_whole, parts_whole, row_from_bits}
use Rattle.ts_table_rows.proofs.write_laws.written_rows_are_whole.Goals as goal

pub returns-clause-item : goal.returns-clause-item
returns-clause-item c =
    let laws : SpelledBits = record {
      shape = c.fit_rows_are_shaped.ensures;
      spelled = c.length_of_spelled_rows.ensures;
      wide = c.length_of_bits.ensures.number;
      long = c.length_of_bits.ensures.bytes;
    } in
    λ i x sound fits. item_whole laws i x sound fits

pub returns-clause-body : goal.returns-clause-body
returns-clause-body c =
    let laws : SpelledBits = record {
      shape = c.fit_rows_are_shaped.ensures;
      spelled = c.length_of_spelled_rows.ensures;
      wide = c.length_of_bits.ensures.number;
      long = c.length_of_bits.ensures.bytes;
    } in
    λ p values own items sound fits. parts_whole laws p values own items sound fits

pub returns-clause-bytes : goal.returns-clause-bytes
returns-clause-bytes c = λ row bits small same. row_from_bits c.spelled_bytes_are_read.ensures c.length_of_bits.ensures.bytes row bits small same
