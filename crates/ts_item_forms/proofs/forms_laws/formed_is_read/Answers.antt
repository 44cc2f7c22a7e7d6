use Rattle.ts_item_forms.proofs.AgainLemmas.{formed_again}
use Rattle.ts_item_forms.proofs.forms_laws.formed_is_read.Goals as goal

pub returns : goal.returns
returns c = λ p f h sound fit all few.
    formed_again (record {
      parts = record { number = c.read_number_is_spelled.ensures; bytes = c.read_bytes_are_spelled.ensures };
      lengths = record {
        read = c.length_of_read_rows.ensures;
        spelled = c.length_of_spelled_rows.ensures;
        fit = c.fit_rows_are_shaped.ensures;
      };
      rows = c.spelled_rows_are_read.ensures;
      number = c.spelled_number_is_read.ensures;
      bytes = c.spelled_bytes_are_read.ensures;
      page = c.written_is_read.ensures;
    }) c.front_is_read_first.ensures c.chosen_page_is_sound.ensures p f h sound fit all few
