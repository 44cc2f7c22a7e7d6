use Rattle.ts_json_tables.specs.HeldTables.{table_value}
use Rattle.tabcomp_core.proofs.AgainLemmas.{always, run_again, run_kept}
use Rattle.tabcomp_core.proofs.decompiling.run_json.Goals as goal

pub returns-clause-again : goal.returns-clause-again
returns-clause-again c =
    always c.to_json.result (run_again c.shown_table_is_read.ensures c.run_tables_are_of_bytes.ensures c.args.run.now (table_value c.in_ok-table.table) c.in_ok-table.ensures.table c.in_ok-table.ensures.valid c.sections-sections.ensures.valid)

pub returns-clause-kept : goal.returns-clause-kept
returns-clause-kept c =
    always c.to_json.result (run_kept c.sections_tell_their_table.ensures.kept c.args.run.now (table_value c.in_ok-table.table) c.in_ok-table.ensures.table c.in_ok-table.ensures.valid c.sections-sections.ensures.whole c.sections-sections.ensures.valid)
