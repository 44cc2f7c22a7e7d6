use Rattle.std.proofs.Common.{[], ◌∷◌, ◌++◌, ◌∙◌, subst, sym}
use Rattle.ts_demux.proofs.TakenLemmas.{on-own}
use Rattle.ts_demux.specs.PidTables as demuxing
use Rattle.ts_demux.specs.TablesOn.{packets_on}
use Rattle.plug_psi.specs.InUse.{always, edits_on}
use Rattle.plug_psi.specs.VariedStands.{edit_in}
use Rattle.plug_psi.proofs.VariedLemmas.{in-use-here, parts-behind, varied-before}
use Rattle.plug_psi.proofs.varied_editor.VariedEditor.take.Goals as goal

pub returns-clause-replaced : goal.returns-clause-replaced
returns-clause-replaced g c = λ pid wanted met h at e.
    let packet = c.args.packet.now in
    let own = g.E.TableEdit.change (edit_in c.args.self.now) in
    c.in_ok-new.ensures.replaced pid (edits_on always pid wanted (met ++ packet ∷ [])) (packets_on pid met)
    (varied-before wanted met packet pid own h.edited) (in-use-here wanted met packet pid at ∙ e)
    (c.in_ok-tables.ensures.completes pid (packets_on pid met) h.tables_read)

pub returns-clause-stands : goal.returns-clause-stands
returns-clause-stands g c = λ pid wanted met h at e.
    let packet = c.args.packet.now in
    let own = g.E.TableEdit.change (edit_in c.args.self.now) in
    record {
      tables_read = subst (demuxing.StandsFor c.take.new.self pid) (sym (on-own pid met packet at)) (c.in_ok-tables.ensures.stands pid (packets_on pid met) h.tables_read);
      edited = parts-behind wanted met packet pid at own
          (c.in_ok-new.ensures.stands pid (edits_on always pid wanted (met ++ packet ∷ [])) (packets_on pid met)
          (varied-before wanted met packet pid own h.edited) (in-use-here wanted met packet pid at ∙ e)
          (c.in_ok-tables.ensures.completes pid (packets_on pid met) h.tables_read));
    }
