use Rattle.ts_item_forms.proofs.ItemLemmas.{formed_was}
use Rattle.ts_item_forms.proofs.forms_laws.formed_is_written.Goals as goal

pub returns : goal.returns
returns c = λ p f from h exact is.
    formed_was (record {
      rows = c.read_rows_are_spelled.ensures;
      parts = record { number = c.read_number_is_spelled.ensures; bytes = c.read_bytes_are_spelled.ensures };
      lengths = c.length_of_bits.ensures.bytes;
      page = c.read_is_written.ensures;
    }) c.front_is_read_first.ensures c.chosen_page_is_exact.ensures p f from h exact is
