use Rattle.ts_json_tables.proofs.PlainLemmas.{table_plain}
use Rattle.ts_json_tables.proofs.table_laws.shown_table_is_plain.Goals as goal

pub returns-clause-whole : goal.returns-clause-whole
returns-clause-whole c = λ t. (table_plain t).whole

pub returns-clause-shallow : goal.returns-clause-shallow
returns-clause-shallow c = λ t. (table_plain t).shallow
