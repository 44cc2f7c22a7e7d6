use Rattle.ts_testgen.specs.GeneratedTables.{pat_section, first_pmt_section, second_pmt_section, sdt_section}
use Rattle.ts_testgen.proofs.tables.Tables.new.Goals as goal

pub returns : goal.returns
unfolding pat_section first_pmt_section second_pmt_section sdt_section
returns c =
    record {
      pat_is = c.in_ok-table_packet.ensures;
      first_pmt_is = c.in_ok-table_packet-2.ensures;
      second_pmt_is = c.in_ok-table_packet-3.ensures;
      sdt_is = c.in_ok-table_packet-4.ensures;
    }
