use Rattle.std.proofs.Common.{refl}
use Rattle.plug_psi.proofs.AlteredLemmas.{none-altered}
use Rattle.plug_psi.proofs.editor.Editor.new.Goals as goal

pub returns-clause-fresh : goal.returns-clause-fresh
returns-clause-fresh g c = record {
  working = c.unset.ensures;
  tables_read = c.in_ok-tables.ensures;
  edited = c.in_ok-inner.ensures.fresh;
  told = none-altered (g.E.TableEdit.change c.args.edit) c.args.pid _ refl;
}
