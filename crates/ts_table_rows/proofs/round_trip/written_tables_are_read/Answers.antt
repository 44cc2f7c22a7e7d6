use Rattle.ts_table_rows.proofs.AgainBits.{ReadAgain}
use Rattle.ts_table_rows.proofs.AgainRun.{written-again}
use Rattle.ts_table_rows.proofs.AgainWhole.{written-whole}
use Rattle.ts_table_rows.proofs.round_trip.written_tables_are_read.Goals as goal

pub returns : goal.returns
returns c =
    let laws : ReadAgain = record {
      sizes = record {
        shape = c.fit_rows_are_shaped.ensures;
        spelled = c.length_of_spelled_rows.ensures;
        wide = c.length_of_bits.ensures.number;
        long = c.length_of_bits.ensures.bytes;
      };
      rows = c.spelled_rows_are_read.ensures;
      number = c.spelled_number_is_read.ensures;
      row = c.spelled_bytes_are_read.ensures;
      spelled = c.read_bytes_are_spelled.ensures;
      loop = c.loops_are_whole_or_cut.ensures.again;
    } in
    record {
      again = λ p h sound fits some ss is. written-again laws c.made_sections_are_valid.ensures.long p h ss sound fits some is;
      whole = λ p h sound runs fits some ss is. written-whole laws c.made_sections_are_valid.ensures.long p h ss sound runs fits some is;
    }
