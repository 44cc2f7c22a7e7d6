use Rattle.plug_psi.proofs.VariedLemmas.{varied-first}
use Rattle.plug_psi.proofs.varied_editor.VariedEditor.new.Goals as goal

pub returns-clause-fresh : goal.returns-clause-fresh
returns-clause-fresh g c = λ wanted. record {
  tables_read = c.in_ok-tables.ensures;
  edited = varied-first wanted c.args.pid (g.E.TableEdit.change c.args.edit) c.in_ok-editor.ensures.fresh;
}
