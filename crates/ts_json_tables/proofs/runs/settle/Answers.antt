use Rattle.ts_table_rows.specs.TablePages.{table_page}
use Rattle.ts_table_rows.specs.TableValues.{table_held}
use Rattle.ts_json_tables.proofs.FitLemmas.{fit_parts}
use Rattle.ts_json_tables.proofs.runs.settle.Goals as goal

pub settle_items-requires : goal.settle_items-requires
settle_items-requires c = (fit_parts (table_page c.args.layout.now) (table_held c.args.table) c.requires).zeros
