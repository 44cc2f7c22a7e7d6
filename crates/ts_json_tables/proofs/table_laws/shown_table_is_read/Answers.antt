use Rattle.ts_json_descr.proofs.RoundLemmas.{holding_again}
use Rattle.ts_json_tables.proofs.RoundEnd.{table_again}
use Rattle.ts_json_tables.proofs.table_laws.shown_table_is_read.Goals as goal

pub returns : goal.returns
returns c = λ t is well.
    table_again (record {
      name = c.element_shows.ensures.name;
      keys = c.element_shows.ensures.keys;
      values = c.element_shows.ensures.values;
      children = c.element_shows.ensures.children;
      descr = c.shown_descr_is_read.ensures;
      bytes = c.written_rows_are_whole.ensures.bytes;
      written = c.read_is_written.ensures;
      holding = holding_again (record {
        name = c.element_shows.ensures.name;
        keys = c.element_shows.ensures.keys;
        values = c.element_shows.ensures.values;
        children = c.element_shows.ensures.children;
        lengths = c.length_of_bits.ensures.bytes;
        written = c.read_is_written.ensures;
        formed = c.formed_is_written.ensures;
        grouped = c.grouped_is_written.ensures;
      });
      offsets = record {
        rows = c.length_of_read_rows.ensures;
        bytes = c.read_bytes_are_spelled.ensures;
        whole = c.loops_are_whole_or_cut.ensures.whole;
      };
    }) t is well
