use Rattle.std.proofs.Common.{◌≡◌, ◌+◌, ◌∷◌, drop}
use Rattle.ts_table_rows.specs.BodyReading.{seen_so_far}
use Rattle.ts_table_rows.specs.RunReading as reading
use Rattle.ts_table_rows.specs.TablePages.{table_page}
use Rattle.ts_table_rows.specs.TableValues.{body_held}
use Rattle.ts_table_rows.proofs.RunLemmas.{with_body}
use Rattle.ts_table_rows.proofs.read_run.read_sections.Given as goal

abbrev pub invariant-loop-section : goal.invariant-loop-section
invariant-loop-section l = record {
  same : l.place ≡ l.section-index + 1;
  read : with_body (body_held l.body) (reading.read_sections (table_page l.layout) (seen_so_far l.seen) (l.section-index + 1) (drop l.section-index l.others)) ≡ reading.read_sections (table_page l.layout) reading.unseen 0 (l.first ∷ l.others);
}
