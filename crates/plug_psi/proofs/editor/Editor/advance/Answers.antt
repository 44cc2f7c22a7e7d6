use Rattle.std.proofs.Common.{◌||◌, ap, refl, ◌∙◌}
use Rattle.plug_psi.specs.AlteredTables.{alters_one}
use Rattle.plug_psi.specs.EditorStands.{edit_of}
use Rattle.plug_psi.proofs.AlteredLemmas.{altered-more}
use Rattle.plug_psi.proofs.editor.Editor.advance.Goals as goal

pub returns-clause-replaced : goal.returns-clause-replaced
returns-clause-replaced g c = λ pid taken h.
    c.in_ok-new.ensures.replaced pid (λ s. g.E.TableEdit.change (edit_of c.args.self.now)) taken h.edited refl
    (c.in_ok-tables.ensures.completes pid taken h.tables_read)

pub returns-clause-stands : goal.returns-clause-stands
returns-clause-stands g c = λ pid taken h.
    let completes = c.in_ok-tables.ensures.completes pid taken h.tables_read in
    record {
      working = h.working;
      tables_read = c.in_ok-tables.ensures.stands pid taken h.tables_read;
      edited = c.in_ok-new.ensures.stands pid (λ s. g.E.TableEdit.change (edit_of c.args.self.now)) taken h.edited refl completes;
      told = altered-more (g.E.TableEdit.change (edit_of c.args.self.now)) c.args.self.now.has_altered c.in_ok-altered.altered pid taken c.args.packet.now c.in_ok-tables.tables.items
          (c.in_ok-altered.ensures ∙ ap (λ tables. c.args.self.now.has_altered || alters_one (g.E.TableEdit.change (edit_of c.args.self.now)) tables) c.as_slice.ensures.value)
          h.told completes;
    }
