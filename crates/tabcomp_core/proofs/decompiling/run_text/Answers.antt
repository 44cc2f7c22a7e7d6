use Rattle.serde_json.specs.View.{view}
use Rattle.ts_json_tables.specs.RunTables.{table_of_run}
use Rattle.ts_json_tables.specs.TableElements.{table_shown}
use Rattle.tabcomp_core.proofs.AgainLemmas.{faithful_is, text_is}
use Rattle.tabcomp_core.proofs.decompiling.run_text.Goals as goal

pub returns-clause-text : goal.returns-clause-text
returns-clause-text c =
    text_is (table_shown (table_of_run c.args.run.now)) (view c.in_ok-node.node) c.to_string.result c.in_ok-node.ensures.shown
    (c.shown_table_is_plain.ensures.whole (table_of_run c.args.run.now)) c.to_string.ensures.text

pub returns-clause-faithful : goal.returns-clause-faithful
returns-clause-faithful c =
    faithful_is c.args.run.now (view c.in_ok-node.node) c.to_string.result
    (record { whole = c.shown_table_is_plain.ensures.whole; shallow = c.shown_table_is_plain.ensures.shallow })
    c.in_ok-node.ensures.again c.in_ok-node.ensures.kept c.in_ok-node.ensures.shown c.to_string.ensures.order c.to_string.ensures.reads_back
