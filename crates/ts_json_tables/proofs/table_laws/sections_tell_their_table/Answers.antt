use Rattle.ts_json_tables.proofs.KeptRuns.{run_kept, told}
use Rattle.ts_json_tables.proofs.table_laws.sections_tell_their_table.Goals as goal

pub returns-clause-told : goal.returns-clause-told
returns-clause-told c = λ t ss is well made.
    told (record {
      written = record { again = c.written_tables_are_read.ensures.again; whole = c.written_tables_are_read.ensures.whole };
      spelled = record { wide = c.length_of_bits.ensures.number; long = c.length_of_bits.ensures.bytes; read = c.read_bytes_are_spelled.ensures };
      long_made = c.made_sections_are_valid.ensures.long;
      short_made = c.made_sections_are_valid.ensures.short;
    }) t ss is well made

pub returns-clause-kept : goal.returns-clause-kept
returns-clause-kept c = λ run whole all is.
    run_kept (record {
      written = record { again = c.written_tables_are_read.ensures.again; whole = c.written_tables_are_read.ensures.whole };
      spelled = record { wide = c.length_of_bits.ensures.number; long = c.length_of_bits.ensures.bytes; read = c.read_bytes_are_spelled.ensures };
      long_made = c.made_sections_are_valid.ensures.long;
      short_made = c.made_sections_are_valid.ensures.short;
    }) run whole all is (c.run_tables_are_of_bytes.ensures run all)
