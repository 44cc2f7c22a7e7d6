use Rattle.std.proofs.Common.{[], refl, ap, subst, ◌∙◌}
use Rattle.plug_psi.specs.CycleStands.{InCycles}
use Rattle.plug_psi.proofs.AlteredLemmas.{none-altered}
use Rattle.service_edit.proofs.table_editor.TableEditorFollows.fresh.Goals as goal

pub returns : goal.returns
returns g c =
    let change = g.E.TableEdit.change in
    let same = ap change c.in_ok-cycles.ensures.edit ∙ c.in_ok-edit.ensures in
    record {
      same_change = same;
      tables_read = c.in_ok-tables.ensures;
      edited = subst (λ w. InCycles w c.in_ok-cycles.cycles c.args.pid []) c.in_ok-edit.ensures c.in_ok-cycles.ensures.fresh;
      told = none-altered (change c.args.seed.now) c.args.pid _ refl;
    }
