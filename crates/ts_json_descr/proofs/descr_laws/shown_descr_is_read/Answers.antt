use Rattle.ts_json_descr.proofs.RoundLemmas.{descr_again}
use Rattle.ts_json_descr.proofs.descr_laws.shown_descr_is_read.Goals as goal

pub returns : goal.returns
returns c = λ d small is short.
    descr_again (record {
      name = c.element_shows.ensures.name;
      keys = c.element_shows.ensures.keys;
      values = c.element_shows.ensures.values;
      children = c.element_shows.ensures.children;
      lengths = c.length_of_bits.ensures.bytes;
      written = c.read_is_written.ensures;
      formed = c.formed_is_written.ensures;
      grouped = c.grouped_is_written.ensures;
    }) d small is short
