use Rattle.std.proofs.Common.{ℕ, List, [], map, refl, subst, Vec, Global}
use Rattle.plugin_settings.specs.declared.plugin_item.PluginItem.{PluginItem}
use Rattle.tsp_top.specs.PlannedTables.{ReadsTables}
use Rattle.tsp_top.specs.TableEnds.{IsOverAtTables}
use Rattle.tsp_top.proofs.TableLemmas.{handed-on, none-read}
use Rattle.tsp_top.proofs.tables.read_tables.Goals as goal

pub returns-in_err-read_after : goal.returns-in_err-read_after
returns-in_err-read_after g c =
    handed-on _ _ c.in_err-read_after.field-0.0 c.from_residual.result c.from_residual.ensures.1
    (subst (λ (items : List PluginItem). IsOverAtTables items (g.D.Desk.seen c.args.desk.now) (g.D.Desk.seen c.read_after.new.desk) c.in_err-read_after.field-0.0) c.as_slice.ensures
    (c.in_err-read_after.ensures [] (g.D.Desk.seen c.args.desk.now) refl (none-read (g.D.Desk.seen c.args.desk.now) c.new-tables.result.items c.new-tables.ensures.items)))

pub returns : goal.returns
returns g c =
    subst (λ (items : List PluginItem). ReadsTables items (map (λ (t : Vec (List ℕ) Global). t.items) c.read_after.new.tables.items) (g.D.Desk.seen c.args.desk.now) (g.D.Desk.seen c.read_after.new.desk)) c.as_slice.ensures
    (c.in_ok-read_after.ensures [] (g.D.Desk.seen c.args.desk.now) refl (none-read (g.D.Desk.seen c.args.desk.now) c.new-tables.result.items c.new-tables.ensures.items))
