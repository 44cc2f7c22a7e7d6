use Rattle.ts_table_rows.proofs.SizeLemmas.{SpelledBits}
use Rattle.ts_table_rows.proofs.BodyLemmas.{rows_are_bodies, rows_are_small}
use Rattle.ts_table_rows.proofs.filling_laws.bodies_are_filled.Goals as goal

pub returns-clause-same : goal.returns-clause-same
returns-clause-same c = λ p b. rows_are_bodies p b

pub returns-clause-small : goal.returns-clause-small
returns-clause-small c =
    let laws : SpelledBits = record {
      shape = c.fit_rows_are_shaped.ensures;
      spelled = c.length_of_spelled_rows.ensures;
      wide = c.length_of_bits.ensures.number;
      long = c.length_of_bits.ensures.bytes;
    } in
    λ p values xs rows sound is. rows_are_small laws p values xs rows sound is
