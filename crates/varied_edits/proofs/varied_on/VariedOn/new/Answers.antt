use Rattle.std.proofs.Common.{[], sym, subst}
use Rattle.plug_psi.specs.CycleStands.{InCyclesBy}
use Rattle.varied_edits.proofs.PidsVary.{parts-first}
use Rattle.varied_edits.proofs.varied_on.VariedOn.new.Goals as goal

pub returns : goal.returns
returns g c = λ edits. record {
  tables_read = c.in_ok-tables.ensures;
  edited =
      subst (λ e. InCyclesBy edits (g.E.TableEdit.change e) c.in_ok-editor.editor c.args.pid []) (sym c.in_ok-editor.ensures.edit)
      (parts-first c.args.pid (λ s. g.E.TableEdit.change c.in_ok-edit.edit) edits (g.E.TableEdit.change c.in_ok-edit.edit) c.in_ok-editor.ensures.fresh);
}
