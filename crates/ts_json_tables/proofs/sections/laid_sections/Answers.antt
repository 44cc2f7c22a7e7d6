use Rattle.ts_table_rows.specs.TablePages.{table_page}
use Rattle.ts_json_tables.proofs.KnownLemmas.{named_facts}
use Rattle.ts_json_tables.proofs.sections.laid_sections.Goals as goal

pub write_table-requires-clause-sound : goal.write_table-requires-clause-sound
write_table-requires-clause-sound c = (named_facts c.args.table.now.layout.now.name.now (table_page c.args.table.now.layout.now) c.requires.known).sound
