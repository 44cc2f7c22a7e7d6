use Rattle.ts_table_rows.proofs.ItemLemmas.{TakenBits, next_takes}
use Rattle.ts_table_rows.proofs.read_laws.items_take_bits.Goals as goal

pub returns : goal.returns
returns c =
    let laws : TakenBits = record {
      rows = c.length_of_read_rows.ensures;
      shape = c.fit_rows_are_shaped.ensures;
      spelled = c.length_of_spelled_rows.ensures;
      number = c.read_number_is_spelled.ensures;
      row = c.read_bytes_are_spelled.ensures;
      wide = c.length_of_bits.ensures.number;
      long = c.length_of_bits.ensures.bytes;
    } in
    λ one_zero i seen behind from item now rest sound is. next_takes laws one_zero i seen behind from item now rest sound is
