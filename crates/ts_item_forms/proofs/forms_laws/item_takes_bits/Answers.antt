use Rattle.ts_item_forms.proofs.TakesLemmas.{item_takes}
use Rattle.ts_item_forms.proofs.forms_laws.item_takes_bits.Goals as goal

pub returns : goal.returns
returns c = λ f from x some is.
    item_takes (record {
      number = c.read_number_is_spelled.ensures;
      bytes = c.read_bytes_are_spelled.ensures;
    }) (record {
      read = c.length_of_read_rows.ensures;
      spelled = c.length_of_spelled_rows.ensures;
      fit = c.fit_rows_are_shaped.ensures;
    }) f from x some is
