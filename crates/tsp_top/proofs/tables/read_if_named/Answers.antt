use Rattle.std.proofs.Common.{◌≡◌, ℕ, List, Option, subst, sym}
use Rattle.plugin_settings.specs.Plugins.{table_file_of}
use Rattle.tsp_top.specs.PlannedTables.{IsTable, files_asked, name_if_any}
use Rattle.tsp_top.proofs.TableLemmas.{named-table, unnamed-table}
use Rattle.tsp_top.proofs.tables.read_if_named.Goals as goal

pub returns-in-Some : goal.returns-in-Some
returns-in-Some g c =
    named-table _ c.read_table.result c.args.plugin c.args.item.now c.in-Some.name.now (g.D.Desk.seen c.args.desk.now) (g.D.Desk.seen c.read_table.new.desk)
    c.in-Some.ensures c.read_table.ensures

pub returns-in-None : goal.returns-in-None
returns-in-None g c =
    let old = g.D.Desk.seen c.args.desk.now in
    let file : Option (List ℕ) = table_file_of c.args.item.now.conf in
    subst (λ (l : List (List ℕ)). IsTable old file l × (old ≡ files_asked old (name_if_any file))) (sym c.new.ensures.items) (unnamed-table old file c.in-None.ensures)
