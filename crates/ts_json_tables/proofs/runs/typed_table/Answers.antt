use Rattle.std.proofs.Common.{subst, sym}
use Rattle.ts_table_rows.specs.TablePages.{table_page}
use Rattle.ts_table_rows.specs.TableValues.{table_held}
use Rattle.ts_json_tables.specs.ValidTables.{IsLaid}
use Rattle.ts_json_tables.specs.RunTables.{bytes_table}
use Rattle.ts_json_tables.proofs.KnownLemmas.{named_facts}
use Rattle.ts_json_tables.proofs.RunLemmas.{bytes_valid, same_valid, settled_laid}
use Rattle.ts_json_tables.proofs.runs.typed_table.Goals as goal

pub returns-in_ok-held-in-Ok-clause-valid : goal.returns-in_ok-held-in-Ok-clause-valid
returns-in_ok-held-in-Ok-clause-valid c =
    let p = table_page c.args.layout.now in
    subst (IsLaid p) (sym c.in_ok-held-in-Ok.ensures)
    (settled_laid p (table_held c.in-Ok.table) (named_facts p.name p c.requires.known) c.in-Ok.ensures.fits)

pub returns-in-Err-Broken-clause-valid : goal.returns-in-Err-Broken-clause-valid
returns-in-Err-Broken-clause-valid c =
    same_valid c.bytes_table.result (bytes_table c.args.run.now) (rw c.sections.ensures.same at c.bytes_table.ensures)
    (bytes_valid c.args.run.now c.sections.ensures.whole c.sections.ensures.valid)
