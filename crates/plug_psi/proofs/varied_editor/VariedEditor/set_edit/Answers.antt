use Rattle.ts_demux.specs.TablesOn.{packets_on}
use Rattle.plug_psi.specs.InUse.{always, edits_on}
use Rattle.plug_psi.proofs.varied_editor.VariedEditor.set_edit.Goals as goal

pub returns-clause-stands : goal.returns-clause-stands
returns-clause-stands g c = λ pid wanted met h.
    record {
      tables_read = h.tables_read;
      edited = c.set_edit.ensures.stands (edits_on always pid wanted met) pid (packets_on pid met) h.edited;
    }
